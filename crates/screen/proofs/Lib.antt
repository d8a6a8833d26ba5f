pub mod ScreenLaws
