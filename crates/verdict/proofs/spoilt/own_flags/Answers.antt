-- The loop keeps the first privilege of the type it stands at. Assumes nothing.
use Rattle.std.proofs.Common.{ℕ, ◌<◌, refl, sym, ◌∙◌, length-set, get_or-set_other, arith}
use Rattle.table.specs.Words.{types}
use Rattle.table.proofs.Facts.{facts, has_format, has_record}
use Rattle.table.proofs.Lists.{fill_more}
use Rattle.table.proofs.Privileges.{first_start}
use Rattle.verdict.specs.Steps.Spoils.{Flag, ForbiddenOwn}
use Rattle.verdict.proofs.Spoils.{own_here, flag_own}
use Rattle.verdict.proofs.spoilt.own_flags.Goals as goal

pub gap_of-gap-requires : goal.gap_of-gap-requires
gap_of-gap-requires c = has_format c.requires.accepted

pub loop-x-init : goal.loop-x-init
loop-x-init c = (sym (first_start _), c.told-flags, λ j l. absurd (omega arith), λ j l. refl)

pub privileges_in-requires : goal.privileges_in-requires
privileges_in-requires c = (has_record c.requires.accepted (omega arith), c.gap_of-gap.ensures.is)

pub overflow_add-next : goal.overflow_add-next
overflow_add-next c = omega (arith, (own_here c.requires (omega arith) c.loop-x.invariant.0 c.privileges_in.ensures.is).low)

pub flag_from-requires : goal.flag_from-requires
flag_from-requires c = let own = own_here c.requires (omega arith) c.loop-x.invariant.0 c.privileges_in.ensures.is in
    (omega arith, own.inside, λ p l. c.requires.fit.legal p (omega (arith, own.inside, c.requires.fit.size)))

pub bounds-flags-x : goal.bounds-flags-x
bounds-flags-x c = omega (arith, (facts c.requires.accepted).few)

pub loop-x-preserved : goal.loop-x-preserved
loop-x-preserved c = let is_type : c.loop-x.x < types c.args.words.now = omega arith in
    let own = own_here c.requires is_type c.loop-x.invariant.0 c.privileges_in.ensures.is in
    let ws = c.args.words.now in
    let marks = c.args.marks.now in (
      own.next,
      length-set {A = ℕ} c.loop-x.flags c.loop-x.x _ ∙ c.loop-x.invariant.1,
      fill_more (λ j r. Flag (ForbiddenOwn ws marks j) r) c.loop-x.flags c.loop-x.x _ (omega (arith, (facts c.requires.accepted).few)) c.loop-x.invariant.2
          (flag_own is_type (rw (c.loop-x.invariant.0, c.privileges_in.ensures.is) at c.flag_from.ensures)),
      λ j l. get_or-set_other c.loop-x.flags c.loop-x.x j _ 0 (λ e. omega arith) ∙ c.loop-x.invariant.3 j l,
    )

pub returns : goal.returns
returns c = record {
  size = c.loop-x.invariant.1;
  each = λ x l. c.loop-x.invariant.2 x (omega arith);
  rest = λ x l. c.loop-x.invariant.3 x (omega arith);
}
