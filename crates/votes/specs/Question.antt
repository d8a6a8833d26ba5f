-- What a count of votes asks.
-- Assumes nothing.
use Rattle.std.specs.Prelude.{Bool, false, List, ℕ, eqb, if◌then◌else◌}
use Rattle.protocol.specs.Statement.{Stmt, agrees_view, agrees_history, acks, stores}
use Rattle.views.specs.View.{view_of, views_of}
use Rattle.votes.specs.declared.question.Question.{Question}

-- s is what is asked for: an agree-view (3) at a view for another, an agree-history (4) at it for the first views of H, an ack (7) or a store (8) at it of a notice for a payload. Nothing
-- else is counted.
unfoldable pub asks : Question → List ℕ → Stmt → Bool
asks q H s =
    if eqb q.kind 3 then agrees_view (view_of q.at) (view_of q.what) s
    else if eqb q.kind 4 then agrees_history (view_of q.at) (views_of H q.length) s
    else if eqb q.kind 7 then acks (view_of q.at) q.notice q.what s
    else if eqb q.kind 8 then stores (view_of q.at) q.notice q.what s
    else false
