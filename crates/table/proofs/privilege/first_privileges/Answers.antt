-- The loop keeps the first privilege of the type it stands at, has written those of the types passed, and writes none behind the types. Assumes
-- nothing.
use Rattle.std.proofs.Common.{◌≡◌, ℕ, ◌+◌, sym, ap, ◌∙◌, arith, rules, length-set, get_or-set_other}
use Rattle.table.specs.Privilege.{first_privilege}
use Rattle.table.proofs.Facts.{facts, has_record}
use Rattle.table.proofs.Privileges.{first_start, first_next, first_within}
use Rattle.table.proofs.Lists.{fill_more}
use Rattle.table.proofs.privilege.first_privileges.Goals as goal

pub loop-x-init : goal.loop-x-init
loop-x-init c = record {
  first_is = sym (first_start _);
  size = c.told-firsts;
  written = search rules;
  rest = search rules;
}

pub overflow_cast-firsts : goal.overflow_cast-firsts
overflow_cast-firsts c = omega (arith, first_within c.args.words.now c.loop-x.x (omega arith), (facts c.requires).privileges_few)

pub bounds-firsts-x : goal.bounds-firsts-x
bounds-firsts-x c = omega (arith, (facts c.requires).few)

pub privileges_at-first-requires : goal.privileges_at-first-requires
privileges_at-first-requires c = has_record c.requires (omega arith)

pub overflow_add-first : goal.overflow_add-first
overflow_add-first c = omega (arith, first_within c.args.words.now c.loop-x.x (omega arith), (facts c.requires).privileges_few)

pub loop-x-preserved : goal.loop-x-preserved
loop-x-preserved c =
    let s = c.loop-x.invariant in
    record {
      first_is = ap (λ (p : ℕ). p + c.privileges_at-first.result) s.first_is ∙ rw c.privileges_at-first.ensures.is (sym (first_next c.args.words.now c.loop-x.x));
      size = length-set {A = ℕ} c.loop-x.firsts c.loop-x.x _ ∙ s.size;
      written = fill_more (λ j r. r ≡ first_privilege c.args.words.now j) c.loop-x.firsts c.loop-x.x _ (omega (arith, (facts c.requires).few)) s.written s.first_is;
      rest = λ j l. get_or-set_other c.loop-x.firsts c.loop-x.x j _ 0 (omega arith) ∙ s.rest j l;
    }
