-- Room is made for the word, or it does not fit.
use Rattle.std.proofs.Common.{arith}
use Rattle.code.proofs.Shifting.{inserts, drops}
use Rattle.code.proofs.Code.insert.Goals as goal
use Rattle.code.proofs.Code.insert.Goals.{then-at-lt1280, else-at-lt1280}

pub returns : goal.returns
returns c =
    elim c.if-at-lt1280.branch [
      | then-at-lt1280 w ↦ rw w.self-is (inserts _ w.min.ensures (omega arith) (omega arith) w.shift.ensures (rw w.self-is at c.more-self.ensures))
      | else-at-lt1280 w ↦ rw w.self-is (drops (omega arith) (rw w.self-is at c.more-self.ensures))
    ]
