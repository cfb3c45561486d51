-- The table of a list of declarations has the language of the text, at each declared type. Assumes nothing.
use Prim.Native.Nat.{ℕ, suc, ◌+◌, ◌≤◌}
use mathlib.Core.Path.{◌≡◌, refl, sym, ◌∙◌, ap}
use mathlib.Core.List.{List, ◌++◌}
use native.Mathlib.Omega.{arith}
use lib.ListN.{length}
use Rattle.grammar.specs.Tree.{Content, is_text, Declaration, Nth, first, later, uses_of}
use Rattle.model.specs.Names.{NeverDeclared}
use Rattle.model.specs.Model.{Model, Operator, element, made, either, in_order, optional, repeated, positive, model_of}
use Rattle.model.specs.Tables.{Rule, kind_of, rule_of, rule_of_model, rule_of_content, made_in_content, declared_from, made_from}
use Rattle.model.specs.Tables.{number_of, rules_of, table_of}
use Rattle.model.specs.Languages.{ContentTakes, Plain, plain_empty, plain_text, plain_children, Runs, SameLanguage}
use Rattle.model.proofs.Placed.{Has, Placed, placed_left, placed_right, declared_length}
use Rattle.model.proofs.Words.{placed}
use Rattle.model.proofs.Uses.{Known, all_known}
use Rattle.model.proofs.Alike.{Alike, of_kind, no_children, by_rule}
use Rattle.model.proofs.Particles.{means}

module _ (ws : List ℕ) (number : List ℕ → ℕ) (declared : ℕ) where
  -- where the rules of a declaration stand
  record Stands (t : ℕ) (c : Content) : Type 0 where
    from : ℕ
    above : declared ≤ from
    own : Has ws t (rule_of_content number from c)
    inner : Placed ws from (made_in_content number from c)

  stands : {ds : List Declaration} {i : ℕ} {d : Declaration} → Nth ds i d → (s t x : ℕ) → t ≡ s + i → declared ≤ x
      → Placed ws s (declared_from number x ds) → Placed ws x (made_from number x ds) → Stands t d.content
  stands (first {a = d}) s t x e g p q =
      let z : t ≡ s = omega arith in
      record { from = x; above = g; own = rw z p.0; inner = placed_left ws x (made_in_content number x d.content) _ q }
  stands (later {b = b} n) s t x e g p q =
      let c = made_in_content number x b.content in
      stands n (suc s) t (x + length c) (omega arith) (omega arith) p.1 (placed_right ws x c _ (x + length c) refl q)

  alike : {t : ℕ} {c : Content} → Plain c → Known number declared (uses_of c) → Stands t c → Alike number (Runs ws declared t) (ContentTakes c)
  alike plain_empty k s = by_rule s.own no_children
  alike plain_text k s = by_rule s.own no_children
  alike {t} (plain_children {p}) k s = (means ws number declared p k).whole t s.from s.above s.own s.inner

  only_text : {c : Content} (x : ℕ) → Plain c → kind_of (rule_of_content number x c) ≡ 1 → c ≡ is_text
  only_text x plain_empty e = absurd (omega arith)
  only_text x plain_text e = refl
  only_text x (plain_children {p}) e = absurd (model (model_of p) e)
    where
      operator : (o : Operator) → kind_of (rule_of number x o) ≡ 1 → ⊥
      operator (either m ms) e = omega arith
      operator (in_order m ms) e = omega arith
      operator (optional m) e = omega arith
      operator (repeated m) e = omega arith
      operator (positive m) e = omega arith

      model : (m : Model) → kind_of (rule_of_model number x m) ≡ 1 → ⊥
      model (element n) e = omega arith
      model (made o) e = operator o e

  same : {t : ℕ} {c : Content} → Plain c → Known number declared (uses_of c) → Stands t c → SameLanguage ws declared number t c
  same plain k s =
      let a = alike plain k s in
      record {
        into = a.into;
        out = a.out;
        text_in = λ e. of_kind s.own (ap (λ (x : Content). kind_of (rule_of_content number s.from x)) e);
        text_out = λ o. only_text s.from plain (sym s.own.kind ∙ o.kind_is);
      }

pub same_language : (format : ℕ) (ds : List Declaration) → ((k : ℕ) → ¬ NeverDeclared ds k) → {t : ℕ} {d : Declaration} → Nth ds t d
    → Plain d.content → SameLanguage (table_of format ds) (length ds) (number_of ds) t d.content
unfolding rules_of
same_language format ds named {t} {d} here plain = same ws number n plain (all_known ds named here) there
  where
    n : ℕ
    n = length ds

    number : List ℕ → ℕ
    number = number_of ds

    ws : List ℕ
    ws = table_of format ds

    declared_rules : List Rule
    declared_rules = declared_from number n ds

    made_rules : List Rule
    made_rules = made_from number n ds

    all_placed : Placed ws 0 (declared_rules ++ made_rules)
    all_placed = placed format (rules_of ds)

    there : Stands ws number n t d.content
    there = stands ws number n here 0 t n (omega arith) (omega arith) (placed_left ws 0 declared_rules made_rules all_placed)
        (placed_right ws 0 declared_rules made_rules n (omega (arith, declared_length number n ds)) all_placed)
