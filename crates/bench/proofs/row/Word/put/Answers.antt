use Rattle.bench.proofs.row.Word.put.Goals as goal

pub returns-in-Taken : goal.returns-in-Taken
returns-in-Taken c = rw c.in-Taken.is c.write_text.ensures

pub returns-in-Signed : goal.returns-in-Signed
returns-in-Signed c = rw c.in-Signed.is c.write_text-in-Signed.ensures

pub returns-in-Entered : goal.returns-in-Entered
returns-in-Entered c = rw c.in-Entered.is c.write_text-in-Entered.ensures

pub returns-in-Delivered : goal.returns-in-Delivered
returns-in-Delivered c = rw c.in-Delivered.is c.write_text-in-Delivered.ensures

pub returns-in-Left : goal.returns-in-Left
returns-in-Left c = rw c.in-Left.is c.write_text-in-Left.ensures

pub returns-in-Quiet : goal.returns-in-Quiet
returns-in-Quiet c = rw c.in-Quiet.is c.write_text-in-Quiet.ensures

pub returns-in-Refused : goal.returns-in-Refused
returns-in-Refused c = rw c.in-Refused.is c.write_text-in-Refused.ensures
