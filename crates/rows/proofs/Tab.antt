-- Laws of a list given by its length and its elements.
use mathlib.Core.Path.{◌≡◌, refl, ap, ap₂}
use mathlib.Core.List.{List, ◌∷◌}
use Prim.Native.Nat.{ℕ, zero, suc, ◌≤◌, ◌<◌, suc-le-suc}
use native.Mathlib.Nat.{le_of_suc-le-suc, not-suc-le-zero, zero-lt-suc}
use native.Mathlib.Omega.{arith}
use lib.ListN.{length, get_or, set, take}
use Rattle.rows.specs.Rows.{tab}

module _ {A : Type 0} where
  pub length_tab : (n : ℕ) (f : ℕ → A) → length (tab n f) ≡ n
  unfolding tab
  length_tab zero f = refl
  length_tab (suc n) f = ap suc (length_tab n (λ k. f (suc k)))

  pub get_d_tab : (n : ℕ) (f : ℕ → A) (i : ℕ) (d : A) → i < n → get_or (tab n f) i d ≡ f i
  unfolding tab
  get_d_tab zero f i d h = absurd (not-suc-le-zero h)
  get_d_tab (suc n) f zero d h = refl
  get_d_tab (suc n) f (suc i) d h = get_d_tab n (λ k. f (suc k)) i d (le_of_suc-le-suc h)

  pub tab_ext : (n : ℕ) (f g : ℕ → A) → ((k : ℕ) → k < n → f k ≡ g k) → tab n f ≡ tab n g
  unfolding tab
  tab_ext zero f g h = refl
  tab_ext (suc n) f g h =
      ap₂ (λ (x : A) (l : List A). x ∷ l) (h zero (zero-lt-suc n)) (tab_ext n (λ k. f (suc k)) (λ k. g (suc k)) (λ k l. h (suc k) (suc-le-suc l)))

  -- one element is another: a store at a row
  pub tab_set : (n : ℕ) (f g : ℕ → A) (i : ℕ) (b : A) → g i ≡ b → ((k : ℕ) → k < n → (k ≡ i → ⊥) → g k ≡ f k) → tab n g ≡ set (tab n f) i b
  unfolding tab
  tab_set zero f g i b e h = refl
  tab_set (suc n) f g zero b e h =
      ap₂ (λ (x : A) (l : List A). x ∷ l) e (tab_ext n (λ k. g (suc k)) (λ k. f (suc k)) (λ k l. h (suc k) (suc-le-suc l) (λ z. omega (arith, z))))
  tab_set (suc n) f g (suc i) b e h =
      ap₂ (λ (x : A) (l : List A). x ∷ l) (h zero (zero-lt-suc n) (λ z. omega (arith, z)))
      (tab_set n (λ k. f (suc k)) (λ k. g (suc k)) i b e (λ k l z. h (suc k) (suc-le-suc l) (λ y. z (omega (arith, y)))))

  pub take_tab : (m n : ℕ) (f : ℕ → A) → m ≤ n → take m (tab n f) ≡ tab m f
  unfolding tab
  take_tab zero n f h = refl
  take_tab (suc m) zero f h = absurd (not-suc-le-zero h)
  take_tab (suc m) (suc n) f h = ap (λ (l : List A). f zero ∷ l) (take_tab m n (λ k. f (suc k)) (le_of_suc-le-suc h))
