-- The answer for a text, computed: what reading it answers. Assumes nothing.
use Rattle.std.proofs.Common.{ℕ, ◌≤◌, ◌<◌, ◌≡◌, refl, subst, inl, inr, List, ◌∷◌, ◌++◌, Option, Some, None, length, drop, Result, Ok, Err}
use Rattle.table.proofs.Test.{is_less, is_equal}
use Rattle.table.proofs.TableTests.{answer_of, answer_of_lem}
use Rattle.table.specs.Check as table
use Rattle.table.specs.Check.{Accepted, TableAnswer}
use Rattle.table.specs.Privilege.{privileges}
use Rattle.grammar.specs.Tree.{Declaration}
use Rattle.grammar.specs.Grammar.{Text}
use Rattle.grammar.proofs.OneTree.{one_tree}
use Rattle.model.specs.Tables.{rules_of, kids_of_all, table_of}
use Rattle.table.proofs.Answers.{answer_accepted}
use Rattle.grammar.proofs.Stopping.{le_or_lt}
use Rattle.scan.specs.Steps.Scanned as scan
use Rattle.scan.specs.declared.Stop.{Stop}
use Rattle.scan.specs.declared.Stop.TheVariants.{Bad, Over}
use Rattle.names.specs.Steps.Names.{FirstMisnamed}
use Rattle.dtd.specs.Answer.{Large, many_types, many_children, Read, Named, misnamed, no_table, DtdAnswer, refused, too_short, done}
use Rattle.dtd.proofs.Passing.{stopped_answer, passed_answer, large_answer}
use Rattle.texts.proofs.Tests.{when}
use Rattle.texts.proofs.Scanning.{scan_at}
use Rattle.texts.proofs.Parsing.{parse}
use Rattle.texts.proofs.Naming.{misnamed_of, misnamed_of_lem}

-- an answer that is right, unless the reader ran out of steps
pub record Right (t out : List ℕ) : Type 0 where
  pub number : ℕ
  pub place : ℕ
  pub after : List ℕ
  pub right : DtdAnswer t out 1 number place after

accepted_at : {ws : List ℕ} {n p : ℕ} → TableAnswer ws n p → n ≡ 0 → Accepted ws
accepted_at {ws} {p = p} y e = (answer_accepted (subst (λ (k : ℕ). TableAnswer ws k p) e y)).0

not_less : {a b : ℕ} → ¬ (a < b) → b ≤ a
not_less {a} {b} f = elim (le_or_lt b a) [ inl h ↦ h | inr h ↦ absurd (f h) ]

-- a text with its tree, within the limits that bytes tell
module _ (t out : List ℕ) (r : scan.Read t) (d : Declaration) (ds : List Declaration) (x : Text t d ds) where
  pub tree : scan.Read t
  tree = record { head = d; tail = ds; text = x; small = r.small }

  pub all_read : ¬ (256 < length (rules_of (d ∷ ds))) → ¬ (1024 < length (kids_of_all (rules_of (d ∷ ds)))) → Read t d ds
  all_read f g = record { text = x; small = λ k o. elim o [ inl y ↦ r.small k y | inr y ↦ no_large y ] }
    where
      no_large : {k : ℕ} → Large t k → ⊥
      no_large (many_types e y n) = f (subst (λ (s : List Declaration). 256 < length (rules_of s)) (one_tree y x) n)
      no_large (many_children e y n) = g (subst (λ (s : List Declaration). 1024 < length (kids_of_all (rules_of s))) (one_tree y x) n)

  -- its table
  module _ (named : Named t d ds) where
    pub table_refused : {n p : ℕ} → TableAnswer (table_of 1 (d ∷ ds)) n p → ¬ (n ≡ 0) → DtdAnswer t out 1 n p out
    table_refused (table.refused c e y) f = refused (no_table c e named y) refl
    table_refused (table.accepted e q a) f = absurd (f e)

    pub table_short : {n p : ℕ} → TableAnswer (table_of 1 (d ∷ ds)) n p → n ≡ 0 → length out < length (table_of 1 (d ∷ ds)) → DtdAnswer t out 1 12 0 out
    table_short y e l = too_short refl refl (record { named = named; accepted = accepted_at y e }) l refl

    pub table_done : {n p : ℕ} → TableAnswer (table_of 1 (d ∷ ds)) n p → n ≡ 0 → ¬ (length out < length (table_of 1 (d ∷ ds)))
        → DtdAnswer t out 1 0 (privileges (table_of 1 (d ∷ ds))) (table_of 1 (d ∷ ds) ++ drop (length (table_of 1 (d ∷ ds))) out)
    table_done y e l = done refl refl (record { named = named; accepted = accepted_at y e }) (not_less l) refl

    abbrev tabled : (n p : ℕ) → TableAnswer (table_of 1 (d ∷ ds)) n p → Right t out
    tabled n p y = when (is_equal n 0)
        (λ e. when (is_less (length out) (length (table_of 1 (d ∷ ds)))) (λ l. record { number = 12; place = 0; after = out; right = table_short y e l })
        (λ l. record { number = 0; place = privileges (table_of 1 (d ∷ ds)); after = table_of 1 (d ∷ ds) ++ drop (length (table_of 1 (d ∷ ds))) out; right = table_done y e l }))
        (λ f. record { number = n; place = p; after = out; right = table_refused y f })

  -- its names
  abbrev named_by : Read t d ds → (f : Option ℕ) → FirstMisnamed (d ∷ ds) f → Right t out
  named_by y (Some k) h = record { number = 22; place = k; after = out; right = refused (misnamed refl y h.0 h.1) refl }
  named_by y None h = let c = answer_of (table_of 1 (d ∷ ds)) in tabled (record { read = y; right = h }) c.number c.place (answer_of_lem (table_of 1 (d ∷ ds)))

  abbrev tree_by : Right t out
  tree_by = when (is_less 256 (length (rules_of (d ∷ ds)))) (λ l. record { number = 21; place = length t; after = out; right = refused (large_answer tree (many_types refl x l)) refl })
      (λ f. when (is_less 1024 (length (kids_of_all (rules_of (d ∷ ds))))) (λ l. record { number = 21; place = length t; after = out; right = refused (large_answer tree (many_children refl x l)) refl })
      (λ g. named_by (all_read f g) (misnamed_of (d ∷ ds)) (misnamed_of_lem (d ∷ ds))))

module _ (t out : List ℕ) where
  abbrev parsed_by : scan.Read t → Option ((d : Declaration) × ((ds : List Declaration) × Text t d ds)) → Option (Right t out)
  parsed_by r None = None
  parsed_by r (Some x) = Some (tree_by t out r x.0 x.1.0 x.1.1)

  abbrev scanned_by : (n : ℕ) (r : Result ℕ Stop) → scan.Scanned t r → Option (Right t out)
  scanned_by n (Ok e) x = parsed_by x.1 (parse n t)
  scanned_by n (Err (Bad k)) x = Some (record { number = 20; place = k; after = out; right = refused (stopped_answer x) refl })
  scanned_by n (Err (Over k)) x = Some (record { number = 21; place = k; after = out; right = refused (passed_answer x) refl })

  abbrev answer_by : (n : ℕ) → Option ((r : Result ℕ Stop) × scan.Scanned t r) → Option (Right t out)
  answer_by n None = None
  answer_by n (Some x) = scanned_by n x.0 x.1

  abbrev pub answer : ℕ → Option (Right t out)
  answer n = answer_by n (scan_at n t)
