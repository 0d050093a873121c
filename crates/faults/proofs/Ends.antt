-- A good line has one LF, its last byte. So the first fault of a line of a text is at one of its bytes, or at the text's end. And its bytes are
-- characters below 128: what a line could go on with are bytes, though the definitions speak of numbers without a bound.
-- Assumes nothing.
use mathlib.Core.Path.{◌≡◌, refl, sym, ap, ◌∙◌, subst}
use mathlib.Core.Bool.{Bool, true, false}
use mathlib.Core.Logic.{◌⊎◌, inl, inr, ⊎_elim}
use Prim.Native.Nat.{ℕ, zero, suc, ◌+◌, ◌-◌, ◌/◌, ◌≤◌, ◌<◌}
use native.Mathlib.Omega.{arith}
use mathlib.Core.List.{List, [], ◌∷◌, ◌++◌, append-nil}
use lib.ListN.{length, drop, length-drop, length-append}
use lib.Seq.{take-length}
use lib.Dec.{leb, ltb, eqb}
use borrow.Author.Tests.{eq-eqb, ne_eqb, leb-true, leb-false, le-leb}
use Rattle.text.specs.Choice.{pick, both, no}
use Rattle.text.specs.Expected.{lf, space, comma, colon, dash}
use Rattle.text.specs.Line.{line_of, line_at}
use Rattle.text.specs.Number.{is_digit, then, is_count}
use Rattle.text.specs.Hash.{hash_bytes}
use Rattle.text.specs.Below.{AllBelow}
use Rattle.text.proofs.ChoiceLaws.{both_true, either_true, no_true}
use Rattle.text.proofs.NumberLaws.{digit_low, digit_high}
use Rattle.command.specs.Words.{spelling}
use Rattle.command.specs.declared.word.RangeWord.TheVariants as range
use Rattle.command.specs.declared.word.HashWord.TheVariants as hash
use Rattle.command.specs.declared.word.Word.{Word}
use Rattle.command.specs.declared.word.Word.TheVariants as word
use Rattle.faults.specs.Language.{Language, FirstFault, End, Byte, Or}
use Rattle.faults.specs.Lines.{Digits, NumberThat, any, is_hex_digit, HexDigit, Octets, Pairs, RangeSet, LineEnd, PartsOf, Parts, Source, LastSet, Sourced, Rest, Bytes, CommandLine, HeaderLine}

-- a line: its first LF is its last byte, and its bytes are characters
pub record IsLine (t : List ℕ) : Type 0 where
  pub ended : line_of t ≡ t
  pub characters : AllBelow 128 t

-- every text of the language is a line
abbrev pub Ends : Language → Type 0
Ends L = (t : List ℕ) → L t → IsLine t

-- a character within a line
abbrev is_plain : ℕ → Bool
is_plain b = both (no (eqb b lf)) (leb b 127)

-- ---- each way to say which texts are good

line_on : (b : ℕ) (t : List ℕ) → is_plain b ≡ true → IsLine t → IsLine (b ∷ t)
unfolding line_of AllBelow
line_on b t e l =
    let p = both_true (no (eqb b lf)) (leb b 127) e in
    record { ended = rw (no_true (eqb b lf) p.0, l.ended); characters = (omega (arith, leb-true b 127 p.1), l.characters) }

byte-ends : (m : ℕ) {K : Language} → is_plain m ≡ true → Ends K → Ends (Byte m K)
unfolding Byte
byte-ends m e k [] d = absurd d
byte-ends m e k (b ∷ t) d = line_on b t (subst (λ (c : ℕ). is_plain c ≡ true) (sym d.0) e) (k t d.1)

line_end-ends : Ends LineEnd
unfolding Byte End line_of AllBelow
line_end-ends [] d = absurd d
line_end-ends (b ∷ []) d = record { ended = rw (eq-eqb b lf d.0); characters = (omega (arith, d.0), tt) }
line_end-ends (b ∷ c ∷ t) d = absurd d.1

or_ends : {K L : Language} → Ends K → Ends L → Ends (Or K L)
or_ends k l t = ⊎_elim (k t) (l t)

plain-within : (b : ℕ) → 48 ≤ b → b ≤ 127 → is_plain b ≡ true
plain-within b l h = rw (ne_eqb b lf (λ (z : b ≡ lf). omega (arith, l, z)), le-leb b 127 h)

digit-on : (b : ℕ) → is_digit b ≡ true → is_plain b ≡ true
digit-on b e = plain-within b (digit_low b e) (omega (arith, digit_high b e))

digits-ends : (test : ℕ → Bool) (K : ℕ → Language) → ((v : ℕ) → Ends (K v)) → (v : ℕ) → Ends (Digits test K v)
unfolding Digits
digits-ends test K k v [] d = k v [] d.1
digits-ends test K k v (b ∷ t) (inl d) = k v (b ∷ t) d.1
digits-ends test K k v (b ∷ t) (inr d) = line_on b t (digit-on b d.0) (digits-ends test K k (then v b) t d.3)

number-ends : (test : ℕ → Bool) (K : ℕ → Language) → ((v : ℕ) → Ends (K v)) → Ends (NumberThat test K)
unfolding NumberThat
number-ends test K k [] d = absurd d
number-ends test K k (b ∷ t) d = line_on b t (digit-on b d.0) (digits-ends test K k (b - 48) t d.1)

hex-on : (b : ℕ) → is_hex_digit b ≡ true → is_plain b ≡ true
hex-on b e =
    ⊎_elim (digit-on b)
    (λ h. let l = both_true (leb 97 b) (leb b 102) h in
    plain-within b (omega (arith, leb-true 97 b l.0)) (omega (arith, leb-true b 102 l.1)))
    (either_true (is_digit b) (both (leb 97 b) (leb b 102)) e)

hex-ends : {K : Language} → Ends K → Ends (HexDigit K)
unfolding HexDigit
hex-ends k [] d = absurd d
hex-ends k (b ∷ t) d = line_on b t (hex-on b d.0) (k t d.1)

octets_ends : (n : ℕ) {K : Language} → Ends K → Ends (Octets n K)
unfolding Octets
octets_ends zero k = k
octets_ends (suc n) k = hex-ends (hex-ends (octets_ends n k))

pairs-ends : (n : ℕ) {K : Language} → Ends K → Ends (Pairs n K)
unfolding Pairs
pairs-ends zero k = k
pairs-ends (suc n) k =
    byte-ends comma refl (number-ends any _ (λ start. byte-ends comma refl (number-ends (λ end. ltb start end) _ (λ end. pairs-ends n k))))

set-ends : {K : Language} → Ends K → Ends (RangeSet K)
unfolding RangeSet
set-ends k = number-ends is_count _ (λ count. pairs-ends (count / 2) k)

parts_of-ends : (n : ℕ) → Ends (PartsOf n)
unfolding PartsOf
parts_of-ends zero = λ t d. absurd d
parts_of-ends (suc n) =
    octets_ends hash_bytes (byte-ends colon refl (set-ends (or_ends line_end-ends (byte-ends space refl (parts_of-ends n)))))

parts_ends : Ends Parts
unfolding Parts
parts_ends t d = parts_of-ends d.0 t d.1

source_ends : Ends Source
unfolding Source
source_ends =
    or_ends (byte-ends dash refl (byte-ends space refl parts_ends))
    (set-ends (or_ends line_end-ends (byte-ends space refl (set-ends (byte-ends space refl parts_ends)))))

last-ends : Ends LastSet
unfolding LastSet
last-ends = byte-ends space refl (set-ends line_end-ends)

sourced-ends : Ends Sourced
unfolding Sourced
sourced-ends = byte-ends space refl (set-ends (byte-ends space refl (number-ends any _ (λ n. byte-ends space refl source_ends))))

hashed_ends : {K : Language} → Ends K → Ends (Byte space (Octets hash_bytes K))
hashed_ends k = byte-ends space refl (octets_ends hash_bytes k)

rest-ends : (w : Word) → Ends (Rest w)
unfolding Rest
rest-ends (word.Ranges w) = last-ends
rest-ends (word.Hash hash.Move) = hashed_ends sourced-ends
rest-ends (word.Hash hash.Stash) = hashed_ends last-ends
rest-ends (word.Hash hash.Free) = hashed_ends line_end-ends
rest-ends word.Bsdiff =
    byte-ends space refl (number-ends any _ (λ o. byte-ends space refl (number-ends any _ (λ b. hashed_ends (hashed_ends sourced-ends)))))
rest-ends word.Imgdiff = λ t d. absurd d
rest-ends word.Unknown = λ t d. absurd d

-- the characters of a word
abbrev are_plain : List ℕ → Bool
are_plain [] = true
are_plain (c ∷ bytes) = both (is_plain c) (are_plain bytes)

bytes-ends : (bytes : List ℕ) {K : Language} → are_plain bytes ≡ true → Ends K → Ends (Bytes bytes K)
unfolding Bytes
bytes-ends [] e k = k
bytes-ends (c ∷ bytes) e k =
    let b = both_true (is_plain c) (are_plain bytes) e in
    byte-ends c b.0 (bytes-ends bytes b.1 k)

word-plain : (w : Word) → are_plain (spelling w) ≡ true
word-plain (word.Ranges range.Zero) = refl
word-plain (word.Ranges range.Erase) = refl
word-plain (word.Ranges range.New) = refl
word-plain (word.Hash hash.Move) = refl
word-plain (word.Hash hash.Stash) = refl
word-plain (word.Hash hash.Free) = refl
word-plain word.Bsdiff = refl
word-plain word.Imgdiff = refl
word-plain word.Unknown = refl

pub command-ends : Ends CommandLine
unfolding CommandLine
command-ends t d = bytes-ends (spelling d.0) (word-plain d.0) (rest-ends d.0) t d.1

pub header-ends : Ends HeaderLine
unfolding HeaderLine
header-ends = number-ends any _ (λ v. line_end-ends)

-- ---- a fault's place

-- a line that its LF ended stays a line, whatever follows; else it is all that is left of the text
ended_or_all : (t : List ℕ) → ((rest : List ℕ) → line_of (line_of t ++ rest) ≡ line_of t) ⊎ (line_of t ≡ t)
unfolding line_of
ended_or_all [] = inr refl
ended_or_all (b ∷ t) = go (eqb b lf) refl (ended_or_all t)
  where
    go : (c : Bool) → eqb b lf ≡ c → ((rest : List ℕ) → line_of (line_of t ++ rest) ≡ line_of t) ⊎ (line_of t ≡ t) →
        ((rest : List ℕ) → line_of (pick c (b ∷ []) (b ∷ line_of t) ++ rest) ≡ pick c (b ∷ []) (b ∷ line_of t))
        ⊎ (pick c (b ∷ []) (b ∷ line_of t) ≡ b ∷ t)
    go true e h = inl (λ rest. rw e)
    go false e (inl f) = inl (λ rest. rw (e, f rest))
    go false e (inr f) = inr (ap (λ (r : List ℕ). b ∷ r) f)

-- nothing follows a text that is the same with what follows it
nothing-more : (l rest : List ℕ) → l ≡ l ++ rest → rest ≡ []
nothing-more l [] e = refl
nothing-more l (b ∷ rest) e = absurd (let z = ap length e in omega (arith, z, length-append l (b ∷ rest)))

module _ (L : Language) (ends : Ends L) (s : List ℕ) (at : ℕ) (h : at ≤ length s) {p : ℕ} (f : FirstFault L at (line_at s at) p) where
  pub fault-at : (p < at + length (line_at s at)) ⊎ (p ≡ length s)
  unfolding line_at
  fault-at = go (leb (length (line_of (drop at s))) f.before) refl
    where
      go : (c : Bool) → leb (length (line_of (drop at s))) f.before ≡ c → (p < at + length (line_of (drop at s))) ⊎ (p ≡ length s)
      go false e = inl (omega (arith, leb-false (length (line_of (drop at s))) f.before e, f.place))
      go true e =
          let z : f.before ≡ length (line_of (drop at s)) = omega (arith, leb-true (length (line_of (drop at s))) f.before e, f.within) in
          ⊎_elim
          (λ (k : (rest : List ℕ) → line_of (line_of (drop at s) ++ rest) ≡ line_of (drop at s)).
          absurd (f.ill (whole z k)))
          (λ (k : line_of (drop at s) ≡ drop at s). inr (omega (arith, f.place, ap length k, length-drop at s)))
          (ended_or_all (drop at s))
        where
          whole : f.before ≡ length (line_of (drop at s)) → ((rest : List ℕ) → line_of (line_of (drop at s) ++ rest) ≡ line_of (drop at s)) →
              L (line_of (drop at s))
          whole z k =
              let l = line_of (drop at s) in
              let g : L (l ++ f.goes.0) = rw (z, take-length l) at f.goes.1 in
              let n = nothing-more l f.goes.0 (sym (k f.goes.0) ∙ (ends (l ++ f.goes.0) g).ended) in
              subst L (ap (λ (r : List ℕ). l ++ r) n ∙ append-nil l) g
