-- "Read element declarations as in XML 1.0 (fifth edition, productions 45 to 51), comments and white space, nothing else" (document 02, order 3): what
-- the bytes from a to b of a text t are, and their tree. The grammar has no limits: those are number 21's. Assumes nothing.
use Rattle.std.specs.Prelude.{ℕ, suc, ◌≡◌, List, [], ◌∷◌, length}
use Prim.Native.Char.{code}
use Rattle.std.proofs.Math.Seq.{slice}
use Rattle.grammar.specs.Bytes.{ascii, is_space, is_name_start, is_name_byte, is_no_dash, Byte, Of, Span, Literal}
use Rattle.grammar.specs.Tree.{Mark, once, maybe, any, several, Particle, Particles, name, choice, sequence, last, more}
use Rattle.grammar.specs.Tree.{Use, Content, is-empty, is_text, is_any, is_mixed, is_children, Declaration}

-- S?
abbrev pub Blanks : List ℕ → ℕ → ℕ → Type 0
Blanks t a b = Span is_space t a b

-- 3: S
pub record Space (t : List ℕ) (a b : ℕ) : Type 0 where
  pub start : Of is_space t a
  pub rest : Blanks t (suc a) b

-- 5: Name, of the bytes n
pub record Name (t : List ℕ) (a b : ℕ) (n : List ℕ) : Type 0 where
  pub is : n ≡ slice a b t
  pub start : Of is_name_start t a
  pub rest : Span is_name_byte t (suc a) b

-- ('?' | '*' | '+')?
pub data MarkAt (t : List ℕ) : ℕ → ℕ → Mark → Type 0 where
  no_mark : {a : ℕ} → MarkAt t a a once
  question : {a : ℕ} → Byte t a (code "?") → MarkAt t a (suc a) maybe
  asterisk : {a : ℕ} → Byte t a (code "*") → MarkAt t a (suc a) any
  plus : {a : ℕ} → Byte t a (code "+") → MarkAt t a (suc a) several

mutual
  -- 48: cp ::= (Name | choice | seq) ('?' | '*' | '+')?
  pub data Cp (t : List ℕ) : ℕ → ℕ → Particle → Type 0 where
    cp_name : {a b c : ℕ} {n : List ℕ} {k : Mark} → Name t a b n → MarkAt t b c k → Cp t a c (name a n k)
    cp_group : {a b : ℕ} {p : Particle} → Children t a b p → Cp t a b p

  -- 47: children ::= (choice | seq) ('?' | '*' | '+')?
  -- 49: choice ::= '(' S? cp ( S? '|' S? cp )+ S? ')'
  -- 50: seq ::= '(' S? cp ( S? ',' S? cp )* S? ')'
  pub data Children (t : List ℕ) : ℕ → ℕ → Particle → Type 0 where
    as_choice : {a b c d : ℕ} {p : Particle} {ps : Particles} {k : Mark} → Byte t a (code "(") → Blanks t (suc a) b
        → Row t (code "|") b c (more p ps) → MarkAt t c d k → Children t a d (choice a (more p ps) k)
    as_sequence : {a b c d : ℕ} {ps : Particles} {k : Mark} → Byte t a (code "(") → Blanks t (suc a) b
        → Row t (code ",") b c ps → MarkAt t c d k → Children t a d (sequence a ps k)

  -- cp ( S? separator S? cp )* S? ')'
  pub data Row (t : List ℕ) : ℕ → ℕ → ℕ → Particles → Type 0 where
    closed : {s a b c : ℕ} {p : Particle} → Cp t a b p → Blanks t b c → Byte t c (code ")") → Row t s a (suc c) (last p)
    separated : {s a b c d e : ℕ} {p : Particle} {ps : Particles} → Cp t a b p → Blanks t b c → Byte t c s → Blanks t (suc c) d
        → Row t s d e ps → Row t s a e (more p ps)

-- (S? '|' S? Name)* S? ')*'
pub data Names (t : List ℕ) : ℕ → ℕ → List Use → Type 0 where
  no_name : {a b c : ℕ} → Blanks t a b → Literal t (ascii ")*") b c → Names t a c []
  one_name : {a b c d e : ℕ} {u : Use} {us : List Use} → Blanks t a b → Byte t b (code "|") → Blanks t (suc b) c
      → Name t c d u.bytes → u.place ≡ c → Names t d e us → Names t a e (u ∷ us)

-- '(' S? '#PCDATA'
pub record Pcdata (t : List ℕ) (a c : ℕ) : Type 0 where
  pub mid : ℕ
  pub open_it : Byte t a (code "(")
  pub blanks : Blanks t (suc a) mid
  pub word : Literal t (ascii "#PCDATA") mid c

-- 46: contentspec ::= 'EMPTY' | 'ANY' | Mixed | children
-- 51: Mixed ::= '(' S? '#PCDATA' (S? '|' S? Name)* S? ')*' | '(' S? '#PCDATA' S? ')'
pub data Spec (t : List ℕ) : ℕ → ℕ → Content → Type 0 where
  spec_empty : {a b : ℕ} → Literal t (ascii "EMPTY") a b → Spec t a b is-empty
  spec_any : {a b : ℕ} → Literal t (ascii "ANY") a b → Spec t a b (is_any a)
  spec_text : {a b c : ℕ} → Pcdata t a b → Blanks t b c → Byte t c (code ")") → Spec t a (suc c) is_text
  spec_starred : {a b c : ℕ} → Pcdata t a b → Names t b c [] → Spec t a c is_text
  spec_mixed : {a b c d : ℕ} {u : Use} {us : List Use} → Pcdata t a b → Blanks t b c → Byte t c (code "|") → Names t b d (u ∷ us)
      → Spec t a d (is_mixed c (u ∷ us))
  spec_children : {a b : ℕ} {p : Particle} → Children t a b p → Spec t a b (is_children p)

-- 45: elementdecl ::= '<!ELEMENT' S Name S contentspec S? '>'
pub data Element (t : List ℕ) : ℕ → ℕ → Declaration → Type 0 where
  element : {a b c d e f g : ℕ} {x : Declaration} → Literal t (ascii "<!ELEMENT") a b → Space t b c → Name t c d x.named → x.place ≡ c
      → Space t d e → Spec t e f x.content → Blanks t f g → Byte t g (code ">") → Element t a (suc g) x

-- 15: Comment ::= '<!--' ((Char - '-') | ('-' (Char - '-')))* '-->', from behind its '<!--' on
pub data Remark (t : List ℕ) : ℕ → ℕ → Type 0 where
  ends : {a b : ℕ} → Literal t (ascii "-->") a b → Remark t a b
  no_dash : {a b : ℕ} → Of is_no_dash t a → Remark t (suc a) b → Remark t a b
  one_dash : {a b : ℕ} → Byte t a (code "-") → Of is_no_dash t (suc a) → Remark t (suc (suc a)) b → Remark t a b

pub record Comment (t : List ℕ) (a c : ℕ) : Type 0 where
  pub mid : ℕ
  pub open_it : Literal t (ascii "<!--") a mid
  pub rest : Remark t mid c

-- declarations, comments and white space from a to the end of the text
pub data Items (t : List ℕ) : ℕ → List Declaration → Type 0 where
  no_more : {a : ℕ} → a ≡ length t → Items t a []
  a_space : {a : ℕ} {ds : List Declaration} → Of is_space t a → Items t (suc a) ds → Items t a ds
  a_comment : {a b : ℕ} {ds : List Declaration} → Comment t a b → Items t b ds → Items t a ds
  a_declaration : {a b : ℕ} {d : Declaration} {ds : List Declaration} → Element t a b d → Items t b ds → Items t a (d ∷ ds)

-- the text is of the grammar, with at least one declaration
pub record Text (t : List ℕ) (d : Declaration) (ds : List Declaration) : Type 0 where
  pub items : Items t 0 (d ∷ ds)
