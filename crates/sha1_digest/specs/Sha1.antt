-- SHA-1, as FIPS 180-4 (August 2015) has it. A message is a list of bytes, numbers below 256; a word is a number below 2 ^ 32.
-- FIPS defines it for messages of fewer than 2 ^ 64 bits. Here a longer one has its length taken modulo 2 ^ 64 (`bytes 8`, in `padded`).
use Rattle.std.specs.Prelude.{◌≡◌, ℕ, zero, suc, ◌+◌, ◌-◌, ◌*◌, ◌/◌, ◌%◌, ◌^◌, cond, List, [], ◌∷◌, ◌++◌, length, replicate, bit_and, bit_or, bit_xor, nat_lt, slice_index, refl}
use Rattle.sha1_digest.specs.declared.HashValue.{HashValue}
pub mod Padding
pub mod Vectors

-- 2.2.2: ¬x
abbrev pub comp : ℕ → ℕ
comp x = 2 ^ 32 - 1 - x

-- 3.2, 5: ROTL^n(x), the rotation to the left by n bits
abbrev pub rotl : ℕ → ℕ → ℕ
rotl n x = bit_or (x * 2 ^ n % 2 ^ 32) (x / 2 ^ (32 - n))

-- 4.1.1: Ch
abbrev pub ch : ℕ → ℕ → ℕ → ℕ
ch x y z = bit_xor (bit_and x y) (bit_and (comp x) z)

-- 4.1.1: Parity
abbrev pub parity : ℕ → ℕ → ℕ → ℕ
parity x y z = bit_xor (bit_xor x y) z

-- 4.1.1: Maj
abbrev pub maj : ℕ → ℕ → ℕ → ℕ
maj x y z = bit_xor (bit_xor (bit_and x y) (bit_and x z)) (bit_and y z)

-- 4.1.1: f_t
unfoldable pub f : ℕ → ℕ → ℕ → ℕ → ℕ
f t x y z = cond (nat_lt t 20) (ch x y z) (cond (nat_lt t 40) (parity x y z) (cond (nat_lt t 60) (maj x y z) (parity x y z)))

-- 4.2.1: K_t
unfoldable pub K : ℕ → ℕ
K t = cond (nat_lt t 20) 0x5a827999 (cond (nat_lt t 40) 0x6ed9eba1 (cond (nat_lt t 60) 0x8f1bbcdc 0xca62c1d6))

-- 3.1: the lowest n bytes of x, highest first
unfoldable pub bytes : ℕ → ℕ → List ℕ
bytes zero x = []
bytes (suc n) x = x / 2 ^ (8 * n) % 256 ∷ bytes n x

-- 5.1.1: the zero bytes behind the byte 0x80, which has the bit 1 and seven zero bits, after n bytes (`Padding` has the rule in bits)
abbrev pub zero_bytes : ℕ → ℕ
zero_bytes n = (119 - n % 64) % 64

-- 5.1.1: the bytes r that end a message of n bytes, with the padding: the bit 1, the zero bits, and the length in bits as 64 bits
unfoldable pub padded : List ℕ → ℕ → List ℕ
padded r n = r ++ (0x80 ∷ (replicate (zero_bytes (length r)) 0 ++ bytes 8 (8 * n)))

-- 5.1.1: the padded message
abbrev pub pad : List ℕ → List ℕ
pad m = padded m (length m)

-- 5.3.1: H^(0)
abbrev pub initial : HashValue
initial = record { a = 0x67452301; b = 0xefcdab89; c = 0x98badcfe; d = 0x10325476; e = 0xc3d2e1f0 }

-- 5.2.1, 3.1: the word whose four bytes, highest first, stand at i of p
abbrev pub word : List ℕ → ℕ → ℕ
word p i = slice_index p i * 2 ^ 24 + slice_index p (i + 1) * 2 ^ 16 + slice_index p (i + 2) * 2 ^ 8 + slice_index p (i + 3)

-- 6.1.2, 1: W_t of the block at byte i of p, where W has the words before it
unfoldable pub next : List ℕ → ℕ → List ℕ → ℕ → ℕ
next p i W t =
    cond (nat_lt t 16) (word p (i + 4 * t))
    (rotl 1 (bit_xor (bit_xor (bit_xor (slice_index W (t - 3)) (slice_index W (t - 8))) (slice_index W (t - 14))) (slice_index W (t - 16))))

-- 6.1.2, 1: the first n words of the message schedule of the block at byte i of p
unfoldable pub schedule : List ℕ → ℕ → ℕ → List ℕ
schedule p i zero = []
schedule p i (suc t) = let W = schedule p i t in W ++ next p i W t ∷ []

-- 6.1.2, 3: a round with the values of f_t, K_t and W_t
abbrev pub round_with : ℕ → ℕ → ℕ → HashValue → HashValue
round_with f k w v =
    record {
      a = (rotl 5 v.a + f + v.e + k + w) % 2 ^ 32;
      b = v.a;
      c = rotl 30 v.b;
      d = v.c;
      e = v.d;
    }

-- 6.1.2, 3: the round t
unfoldable pub round : List ℕ → ℕ → HashValue → HashValue
round W t v = round_with (f t v.b v.c v.d) (K t) (slice_index W t) v

-- 6.1.2, 3: the n rounds from the round t on
unfoldable pub rounds : List ℕ → ℕ → ℕ → HashValue → HashValue
rounds W t zero v = v
rounds W t (suc n) v = round W (t + n) (rounds W t n v)

-- 6.1.2, 4: the sums of the words
abbrev pub plus : HashValue → HashValue → HashValue
plus h v =
    record {
      a = (h.a + v.a) % 2 ^ 32;
      b = (h.b + v.b) % 2 ^ 32;
      c = (h.c + v.c) % 2 ^ 32;
      d = (h.d + v.d) % 2 ^ 32;
      e = (h.e + v.e) % 2 ^ 32;
    }

-- 6.1.2, 1 to 4: the hash value h taken on by the block at byte i of p
unfoldable pub compress : HashValue → List ℕ → ℕ → HashValue
compress h p i = plus h (rounds (schedule p i 80) 0 80 h)

-- 6.1.2: by the first n blocks of p
unfoldable pub blocks : HashValue → List ℕ → ℕ → HashValue
blocks h p zero = h
blocks h p (suc n) = compress (blocks h p n) p (64 * n)

-- 6.1.2: by every whole block of p
unfoldable pub hash : HashValue → List ℕ → HashValue
hash h p = blocks h p (length p / 64)

-- 6.1.2: the message digest, the five words one after the other
unfoldable pub output : HashValue → List ℕ
output h = bytes 4 h.a ++ bytes 4 h.b ++ bytes 4 h.c ++ bytes 4 h.d ++ bytes 4 h.e

-- 6.1: the digest of m. Other crates know it by the laws of proofs/DigestLaws.antt.
pub sha1 : List ℕ → List ℕ
sha1 m = output (hash initial (pad m))

pub sha1-is : (m : List ℕ) → sha1 m ≡ output (hash initial (pad m))
unfolding sha1
sha1-is m = refl
