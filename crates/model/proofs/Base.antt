-- What the proofs share: tests, membership, what is kept of a list, moments.
use Prim.Native.Nat.{ℕ, zero, suc, ◌≤◌, ◌<◌}
use mathlib.Core.Path.{◌≡◌, refl, sym, ap, ◌∙◌}
use mathlib.Core.Logic.{◌⊎◌, inl, inr}
use mathlib.Core.List.{List, [], ◌∷◌, ◌++◌, map, reverse, reverse_aux, reverse-reverse}
use mathlib.Core.Bool.{Bool, true, false, cond, ◌&&◌, ◌||◌, and-eq-true_iff, false≢true}
use native.Mathlib.Omega.{arith}
use lib.Dec.{leb, eqb}
use lib.ListN.{length, get_or, set, take, drop, replicate, take-append-drop}
use lib.Seq.{take-append_seam}
use borrow.Author.Tests.{leb-true, eqb-true, eqb-false, le-leb, eq-eqb}
use Rattle.model.specs.Store.{keep, any, ◌∈◌}
use Rattle.model.specs.Lookup.{any_up_to, is_readable, some_readable}

pub case : {C : Type 0} (b : Bool) → (b ≡ true → C) → (b ≡ false → C) → C
case true f g = f refl
case false f g = g refl

-- what holds of both sides of a test
pub both : {A : Type 0} (P : A → Type 0) (b : Bool) {x y : A} → P x → P y → P (cond b x y)
both P true f g = f
both P false f g = g

pub and→ : (a b : Bool) → (a && b) ≡ true → (a ≡ true) × (b ≡ true)
and→ a b = (and-eq-true_iff a b).0

pub →and : {a b : Bool} → a ≡ true → b ≡ true → (a && b) ≡ true
→and p q = rw (p, q)

pub or→ : (a b : Bool) → (a || b) ≡ true → (a ≡ true) ⊎ (b ≡ true)
or→ true b e = inl refl
or→ false b e = inr e

pub →or₂ : (a : Bool) {b : Bool} → b ≡ true → (a || b) ≡ true
→or₂ true e = refl
→or₂ false e = e

-- two tests that imply one another
pub same_test : (a b : Bool) → (a ≡ true → b ≡ true) → (b ≡ true → a ≡ true) → a ≡ b
same_test true b f g = sym (f refl)
same_test false true f g = g refl
same_test false false f g = refl

pub no_test : {b : Bool} → (b ≡ true → ⊥) → false ≡ b
no_test {b} h = same_test false b (λ e. absurd (false≢true e)) (λ e. absurd (h e))

-- what passes two tests
abbrev pub passes : {A : Type 0} → (A → Bool) → (A → Bool) → A → Bool
passes k l x = k x && l x

pub absurd_test : {C : Type 0} {b : Bool} → b ≡ true → b ≡ false → C
absurd_test p q = absurd (false≢true (sym q ∙ p))

module _ {A : Type 0} where
  pub keep_true : (k : A → Bool) (x : A) (xs : List A) → k x ≡ true → keep k (x ∷ xs) ≡ x ∷ keep k xs
  unfolding keep
  keep_true k x xs e = rw e

  pub keep_false : (k : A → Bool) (x : A) (xs : List A) → k x ≡ false → keep k (x ∷ xs) ≡ keep k xs
  unfolding keep
  keep_false k x xs e = rw e

  pub mem_keep : (k : A → Bool) (x : A) (xs : List A) → x ∈ keep k xs → (x ∈ xs) × (k x ≡ true)
  unfolding keep
  mem_keep k x [] m = absurd m
  mem_keep k x (y ∷ ys) m =
      let ih : x ∈ keep k ys → (x ∈ ys) × (k x ≡ true) = mem_keep k x ys in
      case (k y)
      (λ e.
      let m' : (x ≡ y) ⊎ (x ∈ keep k ys) = rw e at m in
      elim m' [ inl p ↦ (inl p, rw p e) | inr n ↦ (inr (ih n).0, (ih n).1) ])
      (λ e.
      let m' : x ∈ keep k ys = rw e at m in
      (inr (ih m').0, (ih m').1))

  pub keep_mem : (k : A → Bool) (x : A) (xs : List A) → x ∈ xs → k x ≡ true → x ∈ keep k xs
  unfolding keep
  keep_mem k x [] x3 e = elim x3 [ ]
  keep_mem k x (y ∷ ys) (inl p) e =
      let e' : k y ≡ true = rw p at e in
      rw e' (inl p)
  keep_mem k x (y ∷ ys) (inr n) e =
      let ih : x ∈ keep k ys = keep_mem k x ys n e in
      case (k y) (λ d. rw d (inr ih)) (λ d. rw d ih)

  pub length_keep : (k : A → Bool) (xs : List A) → length (keep k xs) ≤ length xs
  unfolding keep
  length_keep k [] = omega arith
  length_keep k (y ∷ ys) =
      let ih : length (keep k ys) ≤ length ys = length_keep k ys in
      case (k y) (λ d. rw d (omega arith)) (λ d. rw d (omega arith))

  pub keep_append : (k : A → Bool) (xs ys : List A) → keep k (xs ++ ys) ≡ keep k xs ++ keep k ys
  unfolding keep
  keep_append k [] ys = refl
  keep_append k (x ∷ xs) ys =
      let ih : keep k (xs ++ ys) ≡ keep k xs ++ keep k ys = keep_append k xs ys in
      case (k x) (λ d. rw (d, ih)) (λ d. rw (d, ih))

  -- kept in two stages: what passes both tests
  pub keep_keep : (k l : A → Bool) (xs : List A) → keep l (keep k xs) ≡ keep (passes k l) xs
  unfolding keep
  keep_keep k l [] = refl
  keep_keep k l (x ∷ xs) = case (k x) (λ e. rw (e, keep_keep k l xs)) (λ e. rw e (keep_keep k l xs))

  -- a kept element by its row
  pub keep_take : (k : A → Bool) (i : ℕ) (xs : List A) → take (length (keep k (take i xs))) (keep k xs) ≡ keep k (take i xs)
  keep_take k i xs =
      let e : keep k xs ≡ keep k (take i xs) ++ keep k (drop i xs) = ap (keep k) (sym (take-append-drop i xs)) ∙ keep_append k (take i xs) (drop i xs) in
      ap (take (length (keep k (take i xs)))) e ∙ take-append_seam (keep k (take i xs)) (keep k (drop i xs))

  pub keep_get_d : (k : A → Bool) (z : A) (i : ℕ) (xs : List A) → k (get_or xs i z) ≡ true → get_or (keep k xs) (length (keep k (take i xs))) z ≡ get_or xs i z
  unfolding keep
  keep_get_d k z i [] e = refl
  keep_get_d k z zero (x ∷ xs) e = rw e
  keep_get_d k z (suc i) (x ∷ xs) e = case (k x) (λ d. rw d (keep_get_d k z i xs e)) (λ d. rw d (keep_get_d k z i xs e))

  pub any_mem : (k : A → Bool) (x : A) (xs : List A) → x ∈ xs → k x ≡ true → any k xs ≡ true
  unfolding any
  any_mem k x [] x3 e = elim x3 [ ]
  any_mem k x (y ∷ ys) (inl p) e = rw (← p, e)
  any_mem k x (y ∷ ys) (inr n) e =
      let ih : any k ys ≡ true = any_mem k x ys n e in
      case (k y) (λ d. rw d) (λ d. rw (d, ih))

  pub mem_any : (k : A → Bool) (xs : List A) → any k xs ≡ true → (x : A) × (x ∈ xs) × (k x ≡ true)
  unfolding any
  mem_any k [] e = absurd (false≢true e)
  mem_any k (y ∷ ys) e =
      case (k y)
      (λ d. (y, inl refl, d))
      (λ d.
      let ih : (x : A) × (x ∈ ys) × (k x ≡ true) = mem_any k ys (rw d at e) in
      (ih.0, inr ih.1, ih.2))

  pub any_none : (k : A → Bool) (xs : List A) → ((x : A) → x ∈ xs → k x ≡ false) → any k xs ≡ false
  unfolding any
  any_none k [] h = refl
  any_none k (x ∷ xs) h = rw (h x (inl refl)) (any_none k xs (λ y m. h y (inr m)))

  pub none_any : (k : A → Bool) (xs : List A) → any k xs ≡ false → (x : A) → x ∈ xs → k x ≡ false
  none_any k xs e x m = case (k x) (λ d. absurd_test (any_mem k x xs m d) e) (λ d. d)

  pub any_append : (k : A → Bool) (xs ys : List A) → any k (xs ++ ys) ≡ (any k xs || any k ys)
  unfolding any
  any_append k [] ys = refl
  any_append k (x ∷ xs) ys = case (k x) (λ d. rw d) (λ d. rw d (any_append k xs ys))

  -- membership in a list that is put together
  pub mem_left : (x : A) (xs ys : List A) → x ∈ xs → x ∈ (xs ++ ys)
  mem_left x [] ys x'' = elim x'' [ ]
  mem_left x (y ∷ xs) ys (inl e) = inl e
  mem_left x (y ∷ xs) ys (inr m) = inr (mem_left x xs ys m)

  pub mem_right : (x : A) (xs ys : List A) → x ∈ ys → x ∈ (xs ++ ys)
  mem_right x [] ys m = m
  mem_right x (y ∷ xs) ys m = inr (mem_right x xs ys m)

  pub mem_append : (x : A) (xs ys : List A) → x ∈ (xs ++ ys) → (x ∈ xs) ⊎ (x ∈ ys)
  mem_append x [] ys m = inr m
  mem_append x (y ∷ xs) ys (inl e) = inl (inl e)
  mem_append x (y ∷ xs) ys (inr m) = elim (mem_append x xs ys m) [ inl k ↦ inl (inr k) | inr k ↦ inr k ]

  pub mem_snoc : (x : A) (xs : List A) (y : A) → x ∈ (xs ++ (y ∷ [])) → (x ∈ xs) ⊎ (x ≡ y)
  mem_snoc x xs y m = elim (mem_append x xs (y ∷ []) m) [ inl k ↦ inl k | inr k ↦ elim k [ inl e ↦ inr e | inr z ↦ absurd z ] ]

  pub mem_take : (n : ℕ) (x : A) (xs : List A) → x ∈ take n xs → x ∈ xs
  mem_take n x xs m = rw (take-append-drop n xs) at (mem_left x (take n xs) (drop n xs) m)

  pub mem_drop : (n : ℕ) (x : A) (xs : List A) → x ∈ drop n xs → x ∈ xs
  mem_drop n x xs m = rw (take-append-drop n xs) at (mem_right x (take n xs) (drop n xs) m)

  pub mem_set : (x : A) (xs : List A) (i : ℕ) (v : A) → x ∈ set xs i v → (x ≡ v) ⊎ (x ∈ xs)
  mem_set x [] i v x'' = elim x'' [ ]
  mem_set x (y ∷ xs) zero v (inl e) = inl e
  mem_set x (y ∷ xs) zero v (inr m) = inr (inr m)
  mem_set x (y ∷ xs) (suc i) v (inl e) = inr (inl e)
  mem_set x (y ∷ xs) (suc i) v (inr m) = elim (mem_set x xs i v m) [ inl e ↦ inl e | inr k ↦ inr (inr k) ]

  pub mem_replicate : (x : A) (n : ℕ) (z : A) → x ∈ replicate n z → x ≡ z
  mem_replicate x zero z x'' = elim x'' [ ]
  mem_replicate x (suc n) z (inl e) = e
  mem_replicate x (suc n) z (inr m) = mem_replicate x n z m

  pub mem_map : {B : Type 0} (f : A → B) (x : A) (xs : List A) → x ∈ xs → f x ∈ map f xs
  mem_map {B = B} f x [] x'' = elim x'' [ ]
  mem_map f x (y ∷ xs) (inl e) = inl (ap f e)
  mem_map f x (y ∷ xs) (inr m) = inr (mem_map f x xs m)

  pub map_mem : {B : Type 0} (f : A → B) (y : B) (xs : List A) → y ∈ map f xs → (x : A) × (x ∈ xs) × (y ≡ f x)
  map_mem {B = B} f y [] x' = elim x' [ ]
  map_mem f y (x ∷ xs) (inl e) = (x, inl refl, e)
  map_mem f y (x ∷ xs) (inr m) =
      let ih : (z : A) × (z ∈ xs) × (y ≡ f z) = map_mem f y xs m in
      (ih.0, inr ih.1, ih.2)

  pub map_same : {B : Type 0} (f g : A → B) (xs : List A) → ((x : A) → x ∈ xs → f x ≡ g x) → map f xs ≡ map g xs
  map_same f g [] h = refl
  map_same f g (x ∷ xs) h = rw (h x (inl refl), map_same f g xs (λ y m. h y (inr m)))

  map_reverse_aux : {B : Type 0} (f : A → B) (xs ys : List A) → reverse_aux (map f xs) (map f ys) ≡ map f (reverse_aux xs ys)
  map_reverse_aux f [] ys = refl
  map_reverse_aux f (x ∷ xs) ys = map_reverse_aux f xs (x ∷ ys)

  pub map_reverse : {B : Type 0} (f : A → B) (xs : List A) → reverse (map f xs) ≡ map f (reverse xs)
  map_reverse f xs = map_reverse_aux f xs []

  pub get_d_mem : (xs : List A) (i : ℕ) (z : A) → i < length xs → get_or xs i z ∈ xs
  get_d_mem [] i z l = absurd (omega arith)
  get_d_mem (x ∷ xs) zero z l = inl refl
  get_d_mem (x ∷ xs) (suc i) z l = inr (get_d_mem xs i z (omega arith))

  pub mem_get_d : (x : A) (xs : List A) (z : A) → x ∈ xs → (i : ℕ) × (i < length xs) × (get_or xs i z ≡ x)
  mem_get_d x [] z x'' = elim x'' [ ]
  mem_get_d x (y ∷ xs) z (inl e) = (0, omega arith, sym e)
  mem_get_d x (y ∷ xs) z (inr m) =
      let ih : (i : ℕ) × (i < length xs) × (get_or xs i z ≡ x) = mem_get_d x xs z m in
      (suc ih.0, omega (arith, ih.1), ih.2)

  -- one newest-first step of reversing
  reverse_aux_append : (xs ys zs : List A) → reverse_aux (xs ++ ys) zs ≡ reverse_aux ys (reverse_aux xs zs)
  reverse_aux_append [] ys zs = refl
  reverse_aux_append (x ∷ xs) ys zs = reverse_aux_append xs ys (x ∷ zs)

  pub reverse_snoc : (xs : List A) (y : A) → reverse (xs ++ (y ∷ [])) ≡ y ∷ reverse xs
  reverse_snoc xs y = reverse_aux_append xs (y ∷ []) []

  mem_reverse_aux : (x : A) (xs ys : List A) → (x ∈ xs) ⊎ (x ∈ ys) → x ∈ reverse_aux xs ys
  mem_reverse_aux x [] ys (inl x3) = elim x3 [ ]
  mem_reverse_aux x [] ys (inr m) = m
  mem_reverse_aux x (y ∷ xs) ys (inl (inl e)) = mem_reverse_aux x xs (y ∷ ys) (inr (inl e))
  mem_reverse_aux x (y ∷ xs) ys (inl (inr m)) = mem_reverse_aux x xs (y ∷ ys) (inl m)
  mem_reverse_aux x (y ∷ xs) ys (inr m) = mem_reverse_aux x xs (y ∷ ys) (inr (inr m))

  pub mem_reverse : (x : A) (xs : List A) → x ∈ xs → x ∈ reverse xs
  mem_reverse x xs m = mem_reverse_aux x xs [] (inl m)

  pub reverse_mem : (x : A) (xs : List A) → x ∈ reverse xs → x ∈ xs
  reverse_mem x xs m = rw (reverse-reverse xs) at (mem_reverse x (reverse xs) m)

  keep_reverse_aux : (k : A → Bool) (xs ys : List A) → reverse_aux (keep k xs) (keep k ys) ≡ keep k (reverse_aux xs ys)
  unfolding keep
  keep_reverse_aux k [] ys = refl
  keep_reverse_aux k (x ∷ xs) ys =
      let ih : reverse_aux (keep k xs) (keep k (x ∷ ys)) ≡ keep k (reverse_aux xs (x ∷ ys)) = keep_reverse_aux k xs (x ∷ ys) in
      case (k x) (λ d. rw d (rw d at ih)) (λ d. rw d (rw d at ih))

  pub keep_reverse : (k : A → Bool) (xs : List A) → reverse (keep k xs) ≡ keep k (reverse xs)
  unfolding keep
  keep_reverse k xs = keep_reverse_aux k xs []

-- moments from lo to hi
any_up_to_intro : (f : ℕ → Bool) (n t : ℕ) → t ≤ n → f t ≡ true → any_up_to f n ≡ true
unfolding any_up_to
any_up_to_intro f zero t h e =
    let z : t ≡ 0 = omega arith in
    rw z at e
any_up_to_intro f (suc n) t h e =
    case (eqb t (suc n))
    (λ d.
    let q : t ≡ suc n = eqb-true t (suc n) d in
    let e' : f (suc n) ≡ true = rw q at e in
    rw e')
    (λ d.
    let ne : t ≡ suc n → ⊥ = eqb-false t (suc n) d in
    →or₂ (f (suc n)) (any_up_to_intro f n t (omega arith) e))

any_up_to_elim : (f : ℕ → Bool) (n : ℕ) → any_up_to f n ≡ true → (t : ℕ) × (t ≤ n) × (f t ≡ true)
unfolding any_up_to
any_up_to_elim f zero e = (0, omega arith, e)
any_up_to_elim f (suc n) e =
    elim (or→ (f (suc n)) (any_up_to f n) e) [
      | inl p ↦ (suc n, omega arith, p)
      | inr p ↦
          let ih : (t : ℕ) × (t ≤ n) × (f t ≡ true) = any_up_to_elim f n p in
          (ih.0, omega (arith, ih.1), ih.2)
    ]

pub some_readable_intro : (ρ : ℕ → Bool) (hi : ℕ) (f : ℕ → Bool) (t : ℕ) → ρ t ≡ true → t ≤ hi → f t ≡ true → some_readable ρ hi f ≡ true
some_readable_intro ρ hi f t h l e = any_up_to_intro (λ u. ρ u && f u) hi t l (→and h e)

pub some_readable_elim : (ρ : ℕ → Bool) (hi : ℕ) (f : ℕ → Bool) → some_readable ρ hi f ≡ true → (t : ℕ) × (ρ t ≡ true) × (t ≤ hi) × (f t ≡ true)
some_readable_elim ρ hi f e =
    let r : (t : ℕ) × (t ≤ hi) × ((ρ t && f t) ≡ true) = any_up_to_elim (λ u. ρ u && f u) hi e in
    let q : (ρ r.0 ≡ true) × (f r.0 ≡ true) = and→ (ρ r.0) (f r.0) r.2 in
    (r.0, q.0, r.1, q.1)

pub some_readable_same : (ρ : ℕ → Bool) (hi : ℕ) (f g : ℕ → Bool) → ((t : ℕ) → ρ t ≡ true → t ≤ hi → f t ≡ g t) → some_readable ρ hi f ≡ some_readable ρ hi g
some_readable_same ρ hi f g h =
    same_test (some_readable ρ hi f) (some_readable ρ hi g) (carried f g h) (carried g f (λ t i j. sym (h t i j)))
  where
    carried : (f g : ℕ → Bool) → ((t : ℕ) → ρ t ≡ true → t ≤ hi → f t ≡ g t) → some_readable ρ hi f ≡ true → some_readable ρ hi g ≡ true
    carried f g h e =
        let r : (t : ℕ) × (ρ t ≡ true) × (t ≤ hi) × (f t ≡ true) = some_readable_elim ρ hi f e in
        some_readable_intro ρ hi g r.0 r.1 r.2 (sym (h r.0 r.1 r.2) ∙ r.3)

-- readable are the moments from the floor on, and the named ones
pub readable_above : (floor : ℕ) (named : List ℕ) (t : ℕ) → floor ≤ t → is_readable floor named t ≡ true
unfolding is_readable
readable_above floor named t h = rw (le-leb floor t h)

pub readable_named : (floor : ℕ) (named : List ℕ) (t : ℕ) → t ∈ named → is_readable floor named t ≡ true
unfolding is_readable
readable_named floor named t m = →or₂ (leb floor t) (any_mem (λ x. eqb x t) t named m (eq-eqb t t refl))

pub readable→ : (floor : ℕ) (named : List ℕ) (t : ℕ) → is_readable floor named t ≡ true → (floor ≤ t) ⊎ (t ∈ named)
unfolding is_readable
readable→ floor named t e =
    elim (or→ (leb floor t) (any (λ x. eqb x t) named) e) [
      | inl p ↦ inl (leb-true floor t p)
      | inr p ↦
          let r : (x : ℕ) × (x ∈ named) × (eqb x t ≡ true) = mem_any (λ x. eqb x t) named p in
          inr (rw (eqb-true r.0 t r.2) at r.1)
    ]

pub not_readable : (floor : ℕ) (named : List ℕ) (t : ℕ) → t < floor → (t ∈ named → ⊥) → is_readable floor named t ≡ false
not_readable floor named t h f =
    case (is_readable floor named t) (λ e. elim (readable→ floor named t e) [ inl l ↦ absurd (omega arith) | inr m ↦ absurd (f m) ]) (λ e. e)

-- what a higher floor and names of readable moments leave readable was readable
pub readable_less : (floor floor' : ℕ) (named named' : List ℕ) (t : ℕ) → floor ≤ floor' → ((x : ℕ) → x ∈ named' → is_readable floor named x ≡ true)
    → is_readable floor' named' t ≡ true → is_readable floor named t ≡ true
readable_less floor floor' named named' t l f e =
    elim (readable→ floor' named' t e) [ inl h ↦ readable_above floor named t (omega arith) | inr m ↦ f t m ]
