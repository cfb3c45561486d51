-- Bytes of a text by their place, and the classes of bytes that names and white space are made of ("Names are ASCII", document 02, order 3; XML 1.0,
-- fifth edition, productions 3, 4 and 4a). Assumes nothing.
use Rattle.std.specs.Prelude.{ℕ, suc, ◌<◌, ◌≡◌, Bool, true, false, ◌||◌, ◌&&◌, not, List, [], ◌∷◌, eqb, leb, length, get_or}
use Prim.Native.Char.{Char, code}
use Prim.Native.String.{String, [] as no_more, ◌∷◌ as ◌then◌}

-- the bytes of a word
abbrev pub ascii : String → List ℕ
ascii no_more = []
ascii (c then s) = code c ∷ ascii s

abbrev pub one_of : List ℕ → ℕ → Bool
one_of [] b = false
one_of (c ∷ cs) b = eqb b c || one_of cs b

abbrev pub between : Char → Char → ℕ → Bool
between low high b = leb (code low) b && leb b (code high)

-- 3: blank, tab, carriage return, line feed
abbrev pub is_space : ℕ → Bool
is_space b = one_of (ascii " \t\r\n") b

-- 4: NameStartChar, in ASCII
abbrev pub is_name_start : ℕ → Bool
is_name_start b = one_of (ascii ":_") b || (between "A" "Z" b || between "a" "z" b)

-- 4a: NameChar, in ASCII
abbrev pub is_name_byte : ℕ → Bool
is_name_byte b = is_name_start b || (one_of (ascii "-.") b || between "0" "9" b)

abbrev pub is_mark : ℕ → Bool
is_mark b = one_of (ascii "?*+") b

-- any byte but '-' ("comments take any byte", document 02)
abbrev pub is_no_dash : ℕ → Bool
is_no_dash b = leb b 255 && not (eqb b (code "-"))

-- the byte at a is c
pub record Byte (t : List ℕ) (a c : ℕ) : Type 0 where
  pub within : a < length t
  pub is : get_or t a 0 ≡ c

-- the byte at a is of the class
pub record Of (class : ℕ → Bool) (t : List ℕ) (a : ℕ) : Type 0 where
  pub within : a < length t
  pub is : class (get_or t a 0) ≡ true

-- the bytes from a to b are of the class, none or more
pub data Span (class : ℕ → Bool) (t : List ℕ) : ℕ → ℕ → Type 0 where
  stop : {a : ℕ} → Span class t a a
  go_on : {a b : ℕ} → Of class t a → Span class t (suc a) b → Span class t a b

-- the bytes from a to b are these
pub data Literal (t : List ℕ) : List ℕ → ℕ → ℕ → Type 0 where
  done : {a : ℕ} → Literal t [] a a
  byte : {c : ℕ} {cs : List ℕ} {a b : ℕ} → Byte t a c → Literal t cs (suc a) b → Literal t (c ∷ cs) a b
