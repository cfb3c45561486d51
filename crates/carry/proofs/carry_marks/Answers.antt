-- What cannot be carried, or has no room, is refused; else both results are written. Assumes nothing.
use Rattle.std.proofs.Common.{◌≡◌, ℕ, ◌++◌, drop, refl, ap, ◌∙◌, arith, inl, inr}
use Rattle.std.proofs.Math.Nat.{sub-zero}
use Rattle.std.proofs.Math.Seq.{length-take-le}
use Rattle.std.proofs.lemmas.Result.{err_from_is_err_and}
use Rattle.table.specs.Privilege.{privileges}
use Rattle.table.proofs.Answers.{refusal_not}
use Rattle.carry.specs.Answers.{Room, refused, short, carried}
use Rattle.carry.proofs.Moves.{move_refused, move_fits, stated}
use Rattle.carry.proofs.carry_marks.Goals as goal

pub returns-in_err-check_move : goal.returns-in_err-check_move
returns-in_err-check_move c = let p = err_from_is_err_and c.from_residual.result c.from_residual.ensures.1 in
    let r = c.in_err-check_move.field-0.0 in
    rw (p.1, p.2) (refused (move_refused (refusal_not r) c.in_err-check_move.ensures) refl refl refl)

pub returns-then-out-v : goal.returns-then-out-v
returns-then-out-v c = let fits = move_fits refl c.in_ok-check_move.ensures in
    short fits (λ r. elim c.then-out-v.either [
      | inl l ↦ omega (arith, l, r.out_room, c.word_at-v.ensures.is, stated fits.accepted)
      | inr l ↦ omega (arith, l.1, r.lost_room, c.word_at-w.ensures.is, stated fits.policy.accepted)
    ]) refl refl refl

pub carry_all-requires : goal.carry_all-requires
carry_all-requires c = let fits = move_fits refl c.in_ok-check_move.ensures in
    let a = c.args in
    record {
      move = fits;
      out_size = rw sub-zero (length-take-le _ a.out.now c.if-out-v.false ∙ c.word_at-v.ensures.is ∙ stated fits.accepted);
      lost_size = rw sub-zero (length-take-le _ a.lost.now c.if-lost-w.false ∙ c.word_at-w.ensures.is ∙ stated fits.policy.accepted);
    }

pub returns : goal.returns
returns c = let fits = move_fits refl c.in_ok-check_move.ensures in
    let new_v : c.word_at-v.result ≡ privileges c.args.new_words.now = c.word_at-v.ensures.is ∙ stated fits.accepted in
    let old_v : c.word_at-w.result ≡ privileges c.args.old_words.now = c.word_at-w.ensures.is ∙ stated fits.policy.accepted in
    let a = c.args in
    let room : Room a.old_words.now a.new_words.now a.out.now a.lost.now = record { out_room = omega (arith, c.if-out-v.false, new_v); lost_room = omega (arith, c.if-lost-w.false, old_v) } in
    carried fits room c.carry_all.ensures refl
    (ap (λ (k : ℕ). c.carry_all.new.out ++ drop k a.out.now) (sub-zero _ ∙ new_v))
    (ap (λ (k : ℕ). c.carry_all.new.lost ++ drop k a.lost.now) (sub-zero _ ∙ old_v))
