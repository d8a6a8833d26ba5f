use Rattle.std.specs.Prelude.{Err}
use Rattle.host.proofs.Hosting.{unread-hosted, add-hosted}
use Rattle.host.proofs.add.add_text.Goals as goal

pub returns-in_default : goal.returns-in_default
returns-in_default c = unread-hosted _ _ _ _ c.is_ready-ready.ensures _ c.notice_count-notices.ensures (Err c.unwritten.result) _ _ c.tell.ensures _ _ c.in_default.ensures c.unwritten.ensures

pub returns : goal.returns
returns c = add-hosted _ _ _ _ c.is_ready-ready.ensures _ c.notice_count-notices.ensures c.add_statement-answer.result _ _ c.tell-2.ensures _ _ _ c.in-Some.ensures _ _ c.add_statement-answer.ensures
