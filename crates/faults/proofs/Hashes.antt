-- A hash of a line, and what follows it: the reader's answer is the first fault.
-- Assumes nothing.
use mathlib.Core.Path.{◌≡◌, refl}
use mathlib.Core.Bool.{true, false}
use Prim.Native.Nat.{ℕ, zero, suc, ◌+◌, ◌*◌, ◌≤◌}
use native.Mathlib.Omega.{arith}
use native.Mathlib.Numerals.{add-one}
use mathlib.Core.List.{List, [], ◌∷◌}
use lib.ListN.{length, drop, get_or, drop_of_length-le}
use lib.Seq.{drop-cons}
use lib.Dec.{leb, ltb}
use borrow.Author.Tests.{ltb-true, ltb-false, ne_eqb}
use Rattle.text.specs.Choice.{both}
use Rattle.text.specs.Expected.{lf}
use Rattle.text.specs.Hash.{hash_bytes, digit_of, digit_at, octet_at, octets_at, hash_at}
use Rattle.text.specs.Hash as read
use Rattle.text.proofs.ChoiceLaws.{picks}
use Rattle.text.specs.Read.{Read, on_read, on_option, on_result}
use Rattle.std.specs.Prelude.{Ok, Err}
use Rattle.faults.specs.Language.{Language, GoesOn, Finding, fault}
use Rattle.faults.specs.Lines.{is_hex_digit, HexDigit, Octets, Hash}
use Rattle.faults.proofs.LanguageLaws.{Reads, fault_here_lem, step, same}
use Rattle.faults.proofs.Seen.{seen, is_lf, At}
use Rattle.faults.proofs.Numbers.{clash}

digit-alive : (K : Language) → GoesOn K [] → GoesOn (HexDigit K) []
unfolding HexDigit
digit-alive K a = (48 ∷ a.0, (refl, a.1))

pub octets_alive : (n : ℕ) (K : Language) → GoesOn K [] → GoesOn (Octets n K) []
unfolding Octets
octets_alive zero K a = a
octets_alive (suc n) K a = digit-alive (HexDigit (Octets n K)) (digit-alive (Octets n K) (octets_alive n K a))

digit-no_lf : (b : ℕ) → is_hex_digit b ≡ true → is_lf b ≡ false
digit-no_lf b e = ne_eqb b lf (λ h. clash (rw h at e) refl)

module _ (s : List ℕ) where
  digit-found : {K : Language} {at : ℕ} {A : Type 0} (f : A → Finding) (g : ℕ → A) (bad : A) → ((v : ℕ) → At s K (at + 1) (f (g v))) →
      f bad ≡ fault at → At s (HexDigit K) at (f (on_option (digit_at s at) g bad))
  unfolding digit_at digit_of HexDigit
  digit-found {K} {at} f g bad k e =
      picks (λ d. At s (HexDigit K) at (f (on_option d g bad))) (ltb at (length s)) _ _
      (λ h. rw (drop-cons s at 0 (ltb-true at (length s) h)) (there (get_or s at 0)))
      (λ h. rw (drop_of_length-le s (ltb-false at (length s) h), e) (fault_here_lem [] (digit-alive K (k 0).alive) (λ d. d)))
    where
      past : (b v : ℕ) → is_hex_digit b ≡ true → Reads (HexDigit K) at (seen is_lf (b ∷ drop (suc at) s)) (f (g v))
      past b v h = rw (digit-no_lf b h) (step (same (λ t x. (h, x)) (λ t x. x.1) (rw add-one at (k v))))

      there : (b : ℕ) → Reads (HexDigit K) at (seen is_lf (b ∷ drop (suc at) s)) (f (on_option (digit_of b) g bad))
      there b =
          picks (λ d. Reads (HexDigit K) at (seen is_lf (b ∷ drop (suc at) s)) (f (on_option d g bad))) (both (leb 48 b) (leb b 57)) _ _
          (λ h. past b _ (rw h))
          (λ h. picks (λ d. Reads (HexDigit K) at (seen is_lf (b ∷ drop (suc at) s)) (f (on_option d g bad))) (both (leb 97 b) (leb b 102)) _ _
          (λ i. past b _ (rw (h, i)))
          (λ i. rw e (fault_here_lem (seen is_lf (b ∷ drop (suc at) s)) (digit-alive K (k 0).alive) (λ t d. clash d.0 (rw (h, i))))))

  octet_found : {K : Language} {at : ℕ} {A : Type 0} (f : A → Finding) (g bad : ℕ → A) → ((v : ℕ) → At s K (at + 2) (f (g v))) →
      ((p : ℕ) → f (bad p) ≡ fault p) → At s (HexDigit (HexDigit K)) at (f (on_result (octet_at s at) g bad))
  unfolding octet_at
  octet_found {at} f g bad k e =
      let two : at + 2 ≡ at + 1 + 1 = omega arith in
      digit-found (λ o. f (on_result o g bad)) _ _
      (λ high. digit-found (λ o. f (on_result o g bad)) _ _ (λ low. rw two at (k (high * 16 + low))) (e (at + 1)))
      (e at)

  octets_found : (n : ℕ) {K : Language} {at : ℕ} (f : Read (List ℕ) → Finding) → ((p : ℕ) → f (Err p) ≡ fault p) →
      ((vs : List ℕ) (next : ℕ) → at ≤ next → At s K next (f (Ok (vs, next)))) → At s (Octets n K) at (f (octets_at n s at))
  unfolding Octets octets_at
  octets_found zero {at} f bad k = k [] at (omega arith)
  octets_found (suc n) {at} f bad k =
      octet_found f (λ v. read.follow v (octets_at n s (at + 2))) Err
      (λ v. octets_found n (λ q. f (read.follow v q)) bad (λ vs next h. k (v ∷ vs) next (omega arith))) bad

  -- a hash at a position, and what follows it
  pub hash-found : {K : Language} {at : ℕ} {A : Type 0} (f : A → Finding) (g : List ℕ → ℕ → A) (bad : ℕ → A) →
      ((hash : List ℕ) (next : ℕ) → at ≤ next → At s K next (f (g hash next))) → ((p : ℕ) → f (bad p) ≡ fault p) →
      At s (Hash K) at (f (on_read (hash_at s at) g bad))
  unfolding hash_at
  hash-found f g bad k e = octets_found hash_bytes (λ q. f (on_read q g bad)) e k
