-- The declarations of a text in code, one after another. Assumes nothing.
use Rattle.std.proofs.Common.{ℕ, ◌≡◌, refl, sym, ◌∙◌, ap, List, [], ◌∷◌, ◌++◌, append-nil, append_assoc, arith, Some, None}
use Rattle.grammar.specs.Tree.{Declaration}
use Rattle.grammar.specs.Grammar.{Items}
use Rattle.model.specs.Tables.{number_of}
use Rattle.names.specs.Steps.Walk.{DeclaredAt, NextOf, none_left, one_there, NextRead, BehindRead}
use Rattle.names.specs.declared.walk.Declared.{Declared}
use Rattle.write.specs.Steps.Code.{code_of_content, code_of_all}
use Rattle.code.specs.Steps.Holding.{Holds}
use Rattle.code.specs.Steps.Putting.{Known, AllShallowIn, ContentPut}

-- how many declarations were put
pub record Done (t list : List ℕ) (count at : ℕ) (buffer : List ℕ) (size : ℕ) (ds : List Declaration) : Type 0 where
  pub done : List Declaration
  pub rest : List Declaration
  pub split : ds ≡ done ++ rest
  pub ahead : Items t at rest
  pub shallow : AllShallowIn rest
  pub holds : Holds buffer size (code_of_all (number_of ds) done)

pub done_start : {t list buffer : List ℕ} {count : ℕ} (ds : List Declaration) → Items t 0 ds → AllShallowIn ds → Done t list count 0 buffer 0 ds
done_start ds i f = record { done = []; rest = ds; split = refl; ahead = i; shallow = f; holds = record { sized = refl; same = λ j h k. absurd (omega arith) } }

code_more : (number : List ℕ → ℕ) (done : List Declaration) (d : Declaration) → code_of_all number (done ++ (d ∷ [])) ≡ code_of_all number done ++ code_of_content number d.content
code_more number [] d = append-nil (code_of_content number d.content)
code_more number (e ∷ done) d = ap (λ (l : List ℕ). code_of_content number e.content ++ l) (code_more number done d) ∙ sym (append_assoc (code_of_content number e.content) (code_of_all number done) (code_of_content number d.content))

data Ahead (t : List ℕ) (ds : List Declaration) (p : Declared) : Type 0 where
  ahead : (d : Declaration) (es : List Declaration) → ds ≡ d ∷ es → DeclaredAt t d es p.name p.body → Ahead t ds p

next_ahead : {t : List ℕ} {ds : List Declaration} {p : Declared} → NextOf t ds (Some p) → Ahead t ds p
next_ahead (one_there {d} {ds} x) = ahead d ds refl x

next_none : {t : List ℕ} {ds : List Declaration} → NextOf t ds None → ds ≡ []
next_none none_left = refl

pub done_on : {t list buffer after : List ℕ} {count at size grown next : ℕ} {d : Declared} {ds : List Declaration} → Known t list count ds → NextRead t at (Some d)
    → ContentPut t list count d.body buffer size after grown → BehindRead t d.body next → Done t list count at buffer size ds → Done t list count next after grown ds
done_on {t} {list} {buffer} {after} {count} {at} {size} {grown} {next} {d = places} {ds} k x y z p = go (next_ahead (x.of p.rest p.ahead))
  where
    go : Ahead t p.rest places → Done t list count next after grown ds
    go (ahead d es q w) =
        let sh : AllShallowIn (d ∷ es) = rw q at p.shallow in
        record {
          done = p.done ++ (d ∷ []);
          rest = es;
          split = p.split ∙ ap (λ (l : List Declaration). p.done ++ l) q ∙ sym (append_assoc p.done (d ∷ []) es);
          ahead = z.of d es places.name w;
          shallow = sh.1;
          holds = rw (code_more (number_of ds) p.done d) ((y.of ds k d.content w.end w.spec w.after sh.0).holds (code_of_all (number_of ds) p.done) p.holds);
        }

pub done_all : {t list buffer : List ℕ} {count at size : ℕ} {ds : List Declaration} → NextRead t at None → Done t list count at buffer size ds → Holds buffer size (code_of_all (number_of ds) ds)
done_all {buffer = buffer} {size = size} {ds = ds} x p =
    let n = next_none (x.of p.rest p.ahead) in
    let all : ds ≡ p.done = p.split ∙ ap (λ (l : List Declaration). p.done ++ l) n ∙ append-nil p.done in
    go p.done all p.holds
  where
    go : (es : List Declaration) → ds ≡ es → Holds buffer size (code_of_all (number_of ds) es) → Holds buffer size (code_of_all (number_of ds) ds)
    go es q h = rw (sym q) at h
