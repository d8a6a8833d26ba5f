use Rattle.pekdrav.proofs.who.pekdrav_raw_record_ack_set.Goals as goal

pub ack_set-requires : goal.ack_set-requires
ack_set-requires c = c.of_record-e.ensures.1

pub returns : goal.returns
returns c = c.ack_set.ensures
