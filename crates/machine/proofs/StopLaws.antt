-- Stops for saving, for any machine that is sound where an invariant holds: a call does a first part of what a call without stops does;
-- calls, each beginning with the bytes not taken, end as one call without stops over all the bytes does, and take as many; and calling on
-- comes to an end, since each stop burns fuel.
-- Assumes nothing.
use mathlib.Core.Path.{◌≡◌, refl, sym, ap, subst, ◌∙◌}
use mathlib.Core.Bool.{Bool, true, false}
use mathlib.Core.List.{List, [], ◌∷◌, ◌++◌, append-nil, append_assoc}
use mathlib.Core.Logic.{⊎_elim}
use Prim.Native.Nat.{ℕ, zero, suc, ◌+◌, ◌%◌, ◌≤◌, ◌<◌}
use native.Mathlib.Nat.{zero-add, add-zero, mod-eq_of_lt, mod-add-mod}
use native.Mathlib.Omega.{arith}
use lib.ListN.{length, drop, replicate, drop_of_length-le}
use Rattle.text.specs.Choice.{pick, either}
use Rattle.text.proofs.ChoiceLaws.{bool, either_false}
use Rattle.machine.specs.Machine.{Machine, feeds, counts}
use Rattle.machine.specs.Pieces.{joined}
use Rattle.machine.specs.Stops.{Halted, going_on, halting, call_ends, call_takes, Sent, start, send, send_all}
use Rattle.machine.proofs.MachineLaws.{never, Sound, feeds-quiet, counts-quiet, feeds-put, counts-put, feeds-stopped, counts-stopped}
use Rattle.machine.proofs.MachineLaws.{feeds-end, counts_end, feeds-keeps, feeds-waits, counts_all, feeds-follows}

-- ---- tests

-- the second, where the first fails
pub other-of : {a b : Bool} → a ≡ false → either a b ≡ true → b ≡ true
other-of e f = rw e at f

either-map : (a : Bool) {b c : Bool} → (b ≡ true → c ≡ true) → either a b ≡ true → either a c ≡ true
either-map true f e = refl
either-map false f e = f e

-- ---- a machine with stops

-- an invariant, whether a stop has come or not
abbrev pub AtConfig : {A : Type 0} → (A → Type 0) → Halted A → Type 0
AtConfig Inv c = Inv c.config

-- m is where a step led that a stop follows
pub record Came (k : Machine) (halts : k.Config → Bool) (Inv : k.Config → Type 0) (m : k.Config) : Type 0 where
  pub from : k.Config
  pub keeps : Inv from
  pub moves : k.waits from ≡ false
  pub halt : halts from ≡ true
  pub is : m ≡ k.quiet from

-- a call from m to c: fuel does not grow, and a stop has cost some
pub record Burns (k : Machine) (m : k.Config) (c : Halted k.Config) : Type 0 where
  pub most : k.fuel c.config ≤ k.fuel m
  pub less : c.halted ≡ true → k.fuel c.config < k.fuel m

-- after calls from m whose fresh bytes are `all`: with the bytes not taken, and any more, what is left to do gives the same
pub record SameLeft (k : Machine) (Inv : k.Config → Type 0) (all : List ℕ) (m : k.Config) (c : Sent k.Config) : Type 0 where
  pub keeps : Inv c.end.config
  pub ends : (zs : List ℕ) → feeds k (all ++ zs) m ≡ feeds k (c.rest ++ zs) c.end.config
  pub takes : (zs : List ℕ) → counts k (all ++ zs) m ≡ c.taken + counts k (c.rest ++ zs) c.end.config
  pub none_left : c.end.halted ≡ false → c.rest ≡ []

pub send-append : (k : Machine) (halts : k.Config → Bool) (qs rs : List (List ℕ)) (c : Sent k.Config)
    → send_all k halts (qs ++ rs) c ≡ send_all k halts rs (send_all k halts qs c)
unfolding send_all
send-append k halts [] rs c = refl
send-append k halts (q ∷ qs) rs c = send-append k halts qs rs (send k halts q c)

module _ (k : Machine) (halts : k.Config → Bool) (Inv : k.Config → Type 0) (g : Sound k Inv) where
  -- it is sound where the machine without stops is
  pub halting-sound : Sound (halting k halts) (AtConfig Inv)
  halting-sound =
      record {
        falls = λ c v w. g.falls c.config v (either_false c.halted (k.waits c.config) w).1;
        rests = λ c v s. either-map c.halted (g.rests c.config v) s;
        quiet_keeps = λ c v w. g.quiet_keeps c.config v (either_false c.halted (k.waits c.config) w).1;
        put_keeps = λ c x v w s.
            let n = either_false c.halted (k.stopped c.config) s in
            g.put_keeps c.config x v (other-of n.0 w) n.1;
      }

  -- ---- one call

  pub call-keeps : (ys : List ℕ) (m : k.Config) → Inv m → Inv (call_ends k halts ys m).config
  unfolding call_ends
  call-keeps ys m v = feeds-keeps (halting k halts) (AtConfig Inv) halting-sound ys (going_on m) v

  -- without a stop it ends where it can go no further
  pub call-waits : (ys : List ℕ) (m : k.Config) → Inv m → (call_ends k halts ys m).halted ≡ false
      → k.waits (call_ends k halts ys m).config ≡ true
  unfolding call_ends
  call-waits ys m v e = other-of e (feeds-waits (halting k halts) (AtConfig Inv) halting-sound ys (going_on m) v)

  -- a call that ends with more to do, and no stop, took its whole piece
  pub call-all : (ys : List ℕ) (m : k.Config) → Inv m → (call_ends k halts ys m).halted ≡ false
      → k.stopped (call_ends k halts ys m).config ≡ false → call_takes k halts ys m ≡ length ys
  unfolding call_ends call_takes
  call-all ys m v e s = counts_all (halting k halts) (AtConfig Inv) halting-sound ys (going_on m) v (rw (e, s))

  -- a call where the machine has stopped changes nothing
  pub call-stopped : (ys : List ℕ) (m : k.Config) → Inv m → k.stopped m ≡ true
      → (call_ends k halts ys m ≡ going_on m) × (call_takes k halts ys m ≡ 0)
  unfolding call_ends call_takes
  call-stopped ys m v s = (
    feeds-stopped (halting k halts) (AtConfig Inv) halting-sound ys (going_on m) v s,
    counts-stopped (halting k halts) (AtConfig Inv) halting-sound ys (going_on m) v s,
  )

  -- ---- what each step of a call keeps, told of the bytes left, the number of those taken, and where it stands

  module _ (R : List ℕ → ℕ → Halted k.Config → Type 0)
      (quiet : (xs : List ℕ) (n : ℕ) (c : Halted k.Config) → Inv c.config → k.waits c.config ≡ false → R xs n c
      → R xs n ((halting k halts).quiet c))
      (put : (x : ℕ) (xs : List ℕ) (n : ℕ) (c : Halted k.Config) → Inv c.config → k.waits c.config ≡ true
      → k.stopped c.config ≡ false → R (x ∷ xs) n c → R xs (suc n) (going_on (k.put x c.config))) where
    pub call-follows : (ys : List ℕ) (m : k.Config) → Inv m → R ys 0 (going_on m)
        → R (drop (call_takes k halts ys m) ys) (call_takes k halts ys m) (call_ends k halts ys m)
    unfolding call_ends call_takes
    call-follows ys m v r =
        rw zero-add at
        (feeds-follows (halting k halts) (AtConfig Inv) halting-sound R
        (λ xs n c v w r. quiet xs n c v (either_false c.halted (k.waits c.config) w).1 r)
        (λ x xs n c v w s r.
        let e = either_false c.halted (k.stopped c.config) s in
        put x xs n c v (other-of e.0 w) e.1 r)
        ys 0 (going_on m) v r)

  -- ---- a call does a first part of what a call without stops does

  -- with the bytes not taken, and any more, what is left to do gives the same
  pub call_part : (ys zs : List ℕ) (m : k.Config) → Inv m
      → (feeds k (ys ++ zs) m ≡ feeds k (drop (call_takes k halts ys m) ys ++ zs) (call_ends k halts ys m).config)
      × (counts k (ys ++ zs) m
      ≡ call_takes k halts ys m + counts k (drop (call_takes k halts ys m) ys ++ zs) (call_ends k halts ys m).config)
  call_part ys zs m v =
      call-follows
      (λ xs n c. (feeds k (ys ++ zs) m ≡ feeds k (xs ++ zs) c.config) × (counts k (ys ++ zs) m ≡ n + counts k (xs ++ zs) c.config))
      (λ xs n c v w r. (
        r.0 ∙ feeds-quiet k Inv g (xs ++ zs) c.config v w,
        r.1 ∙ ap (λ (i : ℕ). n + i) (counts-quiet k Inv g (xs ++ zs) c.config v w),
      ))
      (λ x xs n c v w s r.
      let i = r.1 in
      let j = counts-put k Inv g x (xs ++ zs) c.config v w s in (
        r.0 ∙ feeds-put k Inv g x (xs ++ zs) c.config v w s,
        omega arith,
      ))
      ys m v (refl, sym (zero-add (counts k (ys ++ zs) m)))

  -- without a stop it leaves no byte that a later call would take
  pub call-rest : (ys zs : List ℕ) (m : k.Config) → Inv m → (call_ends k halts ys m).halted ≡ false
      → (feeds k (drop (call_takes k halts ys m) ys ++ zs) (call_ends k halts ys m).config ≡ feeds k zs (call_ends k halts ys m).config)
      × (counts k (drop (call_takes k halts ys m) ys ++ zs) (call_ends k halts ys m).config ≡ counts k zs (call_ends k halts ys m).config)
  call-rest ys zs m v e =
      let p = (call_ends k halts ys m).config in
      let left = drop (call_takes k halts ys m) ys in
      let kept = call-keeps ys m v in
      ⊎_elim
      (λ s. (
        feeds-stopped k Inv g (left ++ zs) p kept s ∙ sym (feeds-stopped k Inv g zs p kept s),
        counts-stopped k Inv g (left ++ zs) p kept s ∙ sym (counts-stopped k Inv g zs p kept s),
      ))
      (λ s.
      let all = call-all ys m v e s in
      let none : left ≡ [] = drop_of_length-le ys {i = call_takes k halts ys m} (omega arith) in
      (ap (λ (l : List ℕ). feeds k (l ++ zs) p) none, ap (λ (l : List ℕ). counts k (l ++ zs) p) none))
      (bool (k.stopped p))

  -- ---- where a stop comes from

  pub call-came : (ys : List ℕ) (m : k.Config) → Inv m → (call_ends k halts ys m).halted ≡ true → Came k halts Inv (call_ends k halts ys m).config
  call-came ys m v =
      call-follows
      (λ xs n c. c.halted ≡ true → Came k halts Inv c.config)
      (λ xs n c v w r h. record { from = c.config; keeps = v; moves = w; halt = h; is = refl })
      (λ x xs n c v w s r h. absurd (never (sym h)))
      ys m v (λ h. absurd (never (sym h)))

  -- ---- a sequence of calls

  pub same_start : (m : k.Config) → Inv m → SameLeft k Inv [] m (start m)
  same_start m v = record { keeps = v; ends = λ zs. refl; takes = λ zs. sym (zero-add (counts k zs m)); none_left = λ e. refl }

  pub same-send : (all q : List ℕ) (m : k.Config) (c : Sent k.Config) → SameLeft k Inv all m c → SameLeft k Inv (all ++ q) m (send k halts q c)
  same-send all q m c s = go e.halted refl
    where
      p : k.Config
      p = c.end.config

      ys : List ℕ
      ys = c.rest ++ q

      e : Halted k.Config
      e = call_ends k halts ys p

      n : ℕ
      n = call_takes k halts ys p

      ends : (zs : List ℕ) → feeds k ((all ++ q) ++ zs) m ≡ feeds k (drop n ys ++ zs) e.config
      ends zs =
          ap (λ (l : List ℕ). feeds k l m) (append_assoc all q zs)
          ∙ s.ends (q ++ zs)
          ∙ ap (λ (l : List ℕ). feeds k l p) (sym (append_assoc c.rest q zs))
          ∙ (call_part ys zs p s.keeps).0

      takes : (zs : List ℕ) → counts k ((all ++ q) ++ zs) m ≡ (c.taken + n) + counts k (drop n ys ++ zs) e.config
      takes zs =
          let a = ap (λ (l : List ℕ). counts k l m) (append_assoc all q zs) in
          let b = s.takes (q ++ zs) in
          let d = ap (λ (l : List ℕ). counts k l p) (append_assoc c.rest q zs) in
          let f = (call_part ys zs p s.keeps).1 in
          omega arith

      go : (b : Bool) → e.halted ≡ b → SameLeft k Inv (all ++ q) m (record { end = e; rest = pick e.halted (drop n ys) []; taken = c.taken + n })
      go true h =
          record {
            keeps = call-keeps ys p s.keeps;
            ends = λ zs. rw h (ends zs);
            takes = λ zs. rw h (takes zs);
            none_left = λ f. absurd (never (sym h ∙ f));
          }
      go false h =
          record {
            keeps = call-keeps ys p s.keeps;
            ends = λ zs. rw h (ends zs ∙ (call-rest ys zs p s.keeps h).0);
            takes = λ zs. rw h (takes zs ∙ ap (λ (i : ℕ). (c.taken + n) + i) (call-rest ys zs p s.keeps h).1);
            none_left = λ f. rw h;
          }

  pub same-all : (all : List ℕ) (qs : List (List ℕ)) (m : k.Config) (c : Sent k.Config) → SameLeft k Inv all m c
      → SameLeft k Inv (all ++ joined qs) m (send_all k halts qs c)
  unfolding send_all joined
  same-all all [] m c s = rw append-nil s
  same-all all (q ∷ qs) m c s = rw (← append_assoc all q (joined qs)) (same-all (all ++ q) qs m (send k halts q c) (same-send all q m c s))

  -- where the last of one call or more did not stop, it ends where it can go no further
  pub all-waits : (q : List ℕ) (qs : List (List ℕ)) (c : Sent k.Config) → Inv c.end.config
      → (send_all k halts (q ∷ qs) c).end.halted ≡ false → k.waits (send_all k halts (q ∷ qs) c).end.config ≡ true
  unfolding send_all
  all-waits q [] c v e = call-waits (c.rest ++ q) c.end.config v e
  all-waits q (r ∷ qs) c v e = all-waits r qs (send k halts q c) (call-keeps (c.rest ++ q) c.end.config v) e

  -- one call or more, the last without a stop, end as a call without stops over all the bytes does, and take as many
  pub sequence_ends : (q : List ℕ) (qs : List (List ℕ)) (m : k.Config) → Inv m → (send_all k halts (q ∷ qs) (start m)).end.halted ≡ false
      → ((send_all k halts (q ∷ qs) (start m)).end.config ≡ feeds k (joined (q ∷ qs)) m)
      × ((send_all k halts (q ∷ qs) (start m)).taken ≡ counts k (joined (q ∷ qs)) m)
  sequence_ends q qs m v e =
      let c = send_all k halts (q ∷ qs) (start m) in
      let s = same-all [] (q ∷ qs) m (start m) (same_start m v) in
      let w = all-waits q qs (start m) v e in
      let r : c.rest ++ [] ≡ [] = append-nil c.rest ∙ s.none_left e in
      let t = s.takes [] in
      let u = ap (λ (l : List ℕ). counts k l c.end.config) r in
      let z = counts_end k Inv g c.end.config in
      let l = ap (λ (l : List ℕ). counts k l m) (append-nil (joined (q ∷ qs))) in (
        sym
            (ap (λ (l : List ℕ). feeds k l m) (sym (append-nil (joined (q ∷ qs))))
            ∙ s.ends []
            ∙ ap (λ (l : List ℕ). feeds k l c.end.config) r
            ∙ feeds-end k Inv g c.end.config s.keeps w),
        omega arith,
      )

  -- ---- only so many stops

  module _ (put_burns_none : (m : k.Config) (x : ℕ) → Inv m → k.waits m ≡ true → k.stopped m ≡ false → k.fuel (k.put x m) ≤ k.fuel m) where
    pub call_burns : (ys : List ℕ) (m : k.Config) → Inv m → Burns k m (call_ends k halts ys m)
    call_burns ys m v =
        call-follows
        (λ xs n c. Burns k m c)
        (λ xs n c v w r. let l = g.falls c.config v w in record { most = omega arith; less = λ h. omega arith })
        (λ x xs n c v w s r.
        let l = put_burns_none c.config x v w s in
        record { most = omega arith; less = λ h. absurd (never (sym h)) })
        ys m v (record { most = omega arith; less = λ h. absurd (never (sym h)) })

    -- a call with no bytes changes nothing where the run can go no further
    call-still : (m : k.Config) → Inv m → k.waits m ≡ true → call_ends k halts [] m ≡ going_on m
    unfolding call_ends
    call-still m v w = feeds-end (halting k halts) (AtConfig Inv) halting-sound (going_on m) v w

    still : (n : ℕ) (c : Sent k.Config) → Inv c.end.config → c.end.halted ≡ false → c.rest ≡ [] → k.waits c.end.config ≡ true
        → (send_all k halts (replicate n []) c).end.halted ≡ false
    unfolding send_all
    still zero c v e r w = e
    still (suc n) c v e r w =
        let q : call_ends k halts (c.rest ++ []) c.end.config ≡ going_on c.end.config = rw r (call-still c.end.config v w) in
        let h = ap (λ (d : Halted k.Config). d.halted) q in
        still n (send k halts [] c)
        (subst (AtConfig Inv) (sym q) v)
        h
        (rw h)
        (subst (λ (d : Halted k.Config). k.waits d.config ≡ true) (sym q) w)

    -- calling on comes to an end
    pub calling_on-ends : (n : ℕ) (c : Sent k.Config) → Inv c.end.config → k.fuel c.end.config < n
        → (send_all k halts (replicate n []) c).end.halted ≡ false
    unfolding send_all
    calling_on-ends zero c v l = absurd (omega arith)
    calling_on-ends (suc n) c v l =
        let p = c.end.config in
        let ys = c.rest ++ [] in
        let kept = call-keeps ys p v in
        ⊎_elim
        (λ h. let b = (call_burns ys p v).less h in calling_on-ends n (send k halts [] c) kept (omega arith))
        (λ h. still n (send k halts [] c) kept h (rw h) (call-waits ys p v h))
        (bool (call_ends k halts ys p).halted)

-- ---- a total of the bytes taken

module _ (k : Machine) (Inv : k.Config → Type 0) (g : Sound k Inv) (total : k.Config → ℕ) (most : ℕ)
    (small : (m : k.Config) → Inv m → total m < most)
    (quiet-total : (m : k.Config) → Inv m → k.waits m ≡ false → total (k.quiet m) ≡ total m)
    (put-total : (m : k.Config) (x : ℕ) → total (k.put x m) ≡ (total m + 1) % most) where
  total-start : (m : k.Config) → Inv m → total m ≡ (total m + 0) % most
  total-start m v = sym (ap (λ (i : ℕ). i % most) (add-zero (total m)) ∙ mod-eq_of_lt (small m v))

  total-put : (x t n : ℕ) (m : k.Config) → total m ≡ (t + n) % most → total (k.put x m) ≡ (t + suc n) % most
  total-put x t n m e =
      put-total m x ∙ ap (λ (i : ℕ). (i + 1) % most) e ∙ mod-add-mod (t + n) most 1 ∙ ap (λ (i : ℕ). i % most) (omega arith)

  pub feeds-total : (xs : List ℕ) (m : k.Config) → Inv m → total (feeds k xs m) ≡ (total m + counts k xs m) % most
  feeds-total xs m v =
      rw zero-add at
      (feeds-follows k Inv g
      (λ ys n p. total p ≡ (total m + n) % most)
      (λ ys n p v w r. quiet-total p v w ∙ r)
      (λ x ys n p v w s r. total-put x (total m) n p r)
      xs 0 m v (total-start m v))

  -- the same, of a call
  pub call-total : (halts : k.Config → Bool) (xs : List ℕ) (m : k.Config) → Inv m
      → total (call_ends k halts xs m).config ≡ (total m + call_takes k halts xs m) % most
  call-total halts xs m v =
      call-follows k halts Inv g
      (λ ys n c. total c.config ≡ (total m + n) % most)
      (λ ys n c v w r. quiet-total c.config v w ∙ r)
      (λ x ys n c v w s r. total-put x (total m) n c.config r)
      xs m v (total-start m v)
