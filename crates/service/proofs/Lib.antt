pub mod ServiceLaws
pub mod NoticeLaws
pub mod WaitLaws
pub mod Whole
pub mod Scheduling
