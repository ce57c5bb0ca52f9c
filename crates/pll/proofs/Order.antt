-- Lists that have each setting of a kind once and in order. The order is a number, `by`, that falls along the list:
-- the key for the search, `list_key` for the lister.
use Rattle.std.specs.Prelude.{◌≡◌, refl, ◌⊎◌, List, [], ◌∷◌, ◌++◌, map, Bool, true, ℕ, zero, suc, ◌+◌, ◌≤◌, ◌<◌}
use mathlib.Core.{Path.sym, Path.ap, Logic.inl, Logic.inr, Logic.⊎_elim, List.flat_map}
use native.Mathlib.{Omega.arith, Nat.eq-or-lt_of_le}
use Rattle.base.proofs.Bools.{either_way}
use Rattle.pll.specs.{Search.falling, Search.rising, Search.keep, declared.PllConfig.PllConfig}

-- a kind of setting
abbrev pub Kind : Type 1
Kind = PllConfig → Type 0

-- cs has the settings of C, each once, the greatest first
unfoldable pub Lists : (PllConfig → ℕ) → Kind → List PllConfig → Type 0
Lists by C [] = (d : PllConfig) → C d → ⊥
Lists by C (c ∷ cs) =
    C c × ((d : PllConfig) → C d → (d ≡ c) ⊎ (by d < by c)) × Lists by (λ d. C d × (by d < by c)) cs

-- the settings of P whose number is one of n, .., 1; is one of k, .., k + n - 1; is k
abbrev pub UpTo : Kind → (PllConfig → ℕ) → ℕ → Kind
UpTo P number n c = P c × (0 < number c) × (number c ≤ n)

abbrev pub From : Kind → (PllConfig → ℕ) → ℕ → ℕ → Kind
From P number n k c = P c × (k ≤ number c) × (number c < k + n)

abbrev pub Only : Kind → (PllConfig → ℕ) → ℕ → Kind
Only P number k c = P c × (number c ≡ k)

module _ (by : PllConfig → ℕ) where
  pub lists-same : (C D : Kind) → ((c : PllConfig) → C c → D c) → ((c : PllConfig) → D c → C c)
      → (cs : List PllConfig) → Lists by C cs → Lists by D cs
  unfolding Lists
  lists-same C D to from [] l = λ d m. l d (from d m)
  lists-same C D to from (c ∷ cs) l = (
    to c l.0,
    λ d m. l.1 d (from d m),
    lists-same (λ d. C d × (by d < by c)) (λ d. D d × (by d < by c))
        (λ d k. (to d k.0, k.1)) (λ d k. (from d k.0, k.1)) cs l.2,
  )

  -- two lists, of which the first precedes the second
  lists-append : (A B D : Kind) → ((c : PllConfig) → A c → D c) → ((c : PllConfig) → B c → D c)
      → ((c : PllConfig) → D c → A c ⊎ B c) → ((c d : PllConfig) → A c → B d → by d < by c)
      → (xs ys : List PllConfig) → Lists by A xs → Lists by B ys → Lists by D (xs ++ ys)
  unfolding Lists
  lists-append A B D left right split ordered [] ys a b =
      lists-same B D right (λ c d. ⊎_elim (λ k. absurd (a c k)) (λ k. k) (split c d)) ys b
  lists-append A B D left right split ordered (c ∷ xs) ys a b = (
    left c a.0,
    λ d k. ⊎_elim (λ m. a.1 d m) (λ m. inr (ordered c d a.0 m)) (split d k),
    lists-append (λ d. A d × (by d < by c)) B (λ d. D d × (by d < by c))
        (λ d k. (left d k.0, k.1))
        (λ d k. (right d k, ordered c d a.0 k))
        (λ d k. ⊎_elim (λ m. inl (m, k.1)) (λ m. inr m) (split d k.0))
        (λ d e k m. ordered d e k.0 m)
        xs ys a.2 b,
  )

  -- the settings of each number, one number after another
  module _ (P : Kind) (number : PllConfig → ℕ) (g : ℕ → List PllConfig) (top : ℕ)
      (one : (k : ℕ) → k ≤ top → Lists by (Only P number k) (g k)) where
    pub lists-falling : ((c d : PllConfig) → P c → P d → number d < number c → by d < by c)
        → (n : ℕ) → n ≤ top → Lists by (UpTo P number n) (flat_map g (falling n))
    unfolding Lists flat_map falling
    lists-falling ordered zero h = λ d m. omega (arith, m.1, m.2)
    lists-falling ordered (suc n) h =
        lists-append (λ c. Only P number (suc n) c) (λ c. UpTo P number n c) (λ c. UpTo P number (suc n) c)
        (λ c a. (a.0, omega (arith, a.1), omega (arith, a.1)))
        (λ c b. (b.0, b.1, omega (arith, b.2)))
        (λ c d. ⊎_elim (λ e. inl (d.0, e)) (λ l. inr (d.0, d.1, omega arith)) (eq-or-lt_of_le d.2))
        (λ c d a b. ordered c d a.0 b.0 (omega (arith, a.1, b.2)))
        (g (suc n)) (flat_map g (falling n)) (one (suc n) h) (lists-falling ordered n (omega arith))

    pub lists-rising : ((c d : PllConfig) → P c → P d → number c < number d → by d < by c)
        → (n k : ℕ) → k + n ≤ suc top → Lists by (From P number n k) (flat_map g (rising n k))
    unfolding Lists flat_map rising
    lists-rising ordered zero k h = λ d m. omega (arith, m.1, m.2)
    lists-rising ordered (suc n) k h =
        lists-append (λ c. Only P number k c) (λ c. From P number n (suc k) c) (λ c. From P number (suc n) k c)
        (λ c a. (a.0, omega (arith, a.1), omega (arith, a.1)))
        (λ c b. (b.0, omega (arith, b.1), omega (arith, b.2)))
        (λ c d. ⊎_elim (λ e. inl (d.0, sym e)) (λ l. inr (d.0, l, omega (arith, d.2))) (eq-or-lt_of_le d.1))
        (λ c d a b. ordered c d a.0 b.0 (omega (arith, a.1, b.1)))
        (g k) (flat_map g (rising n (suc k))) (one k (omega arith)) (lists-rising ordered n (suc k) (omega arith))

  -- the settings that pass a test
  module _ (test : PllConfig → Bool) where
    abbrev Passes : Kind → Kind
    Passes C c = C c × (test c ≡ true)

    pub lists-keep : (cs : List PllConfig) (C : Kind) → Lists by C cs → Lists by (Passes C) (keep test cs)
    unfolding Lists keep
    lists-keep [] C l = λ d m. l d m.0
    lists-keep (c ∷ cs) C l =
        let After : Kind = λ d. C d × (by d < by c) in
        let rest = lists-keep cs After l.2 in
        either_way (test c)
        (λ e.
        rw e (
          (l.0, e),
          λ d m. l.1 d m.0,
          lists-same (Passes After) (λ d. Passes C d × (by d < by c))
              (λ d m. ((m.0.0, m.1), m.0.1)) (λ d m. ((m.0.0, m.1), m.0.1)) (keep test cs) rest,
        ))
        (λ e.
        let passed : (d : PllConfig) → Passes C d → d ≡ c → ⊥
        = λ d m f. let z : ◌≡◌ {A = ℕ} 0 1 = cc (m.1, ap test f, e) in omega arith in
        rw e
        (lists-same (Passes After) (Passes C) (λ d m. (m.0.0, m.1))
        (λ d m. ((m.0, ⊎_elim (λ f. absurd (passed d m f)) (λ k. k) (l.1 d m.0)), m.1)) (keep test cs) rest))

-- the test over two lists
pub keep_append : (test : PllConfig → Bool) (xs ys : List PllConfig)
    → keep test (xs ++ ys) ≡ keep test xs ++ keep test ys
unfolding keep
keep_append test [] ys = refl
keep_append test (c ∷ xs) ys = rw (keep_append test xs ys) (either_way (test c) (λ t. rw t) (λ t. rw t))

-- the test over changed settings
pub keep-map : (test : PllConfig → Bool) (f : PllConfig → PllConfig) (xs : List PllConfig)
    → keep test (map f xs) ≡ map f (keep (λ c. test (f c)) xs)
unfolding keep
keep-map test f [] = refl
keep-map test f (c ∷ xs) = rw (keep-map test f xs) (either_way (test (f c)) (λ t. rw t) (λ t. rw t))
