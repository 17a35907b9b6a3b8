-- Change request Four: a second reclaim to the same floor changes nothing. Two reclaims by any tests are one by both.
use Prim.Native.Nat.{ℕ, zero, suc, ◌+◌, ◌-◌, ◌≤◌}
use mathlib.Core.Path.{◌≡◌, refl, sym, ap, ◌∙◌}
use mathlib.Core.List.{List, ◌++◌, reverse, append_assoc, map-map}
use mathlib.Core.Bool.{Bool, and_self}
use native.Mathlib.Omega.{arith}
use lib.ListN.{length, take, drop, get_or, replicate, replicate-append-replicate}
use lib.Seq.{drop-append_seam}
use Rattle.model.specs.declared.Branch.{Branch}
use Rattle.model.specs.declared.Record.{Record}
use Rattle.model.specs.Store.{Store, newest, records, names, moments, keep, zero_branch, zero_record}
use Rattle.model.specs.Lookup.{lookup, is_at, readable_from, is_given}
use Rattle.model.specs.Wire.{reclaim, accepted}
use Rattle.model.specs.Step.{head_with, renumbered, closed_up, stays, with_cut, settled, reclaimed, step}
use Rattle.model.specs.ByNumber.{Chain, Sizes, Sound}
use Rattle.model.specs.Removal.{Again}
use Rattle.model.proofs.Base.{case, passes, length_keep, keep_keep, keep_take, keep_get_d, map_same, some_readable_same}
use Rattle.model.proofs.Ancestry.{chain_of}
use Rattle.model.proofs.Settling.{stays_cut, left_rows, left_twice}
use Rattle.model.proofs.Checked.{check_sound}
use Rattle.model.proofs.Writing.{length_records}
use Rattle.model.proofs.Reclaiming.{reclaimed_branches, settled_left, reclaimed_newest, reclaimed_records, length_branches, length_settled, given, is_left, after, reclaim_accepted, records_after, lookup_after, sound_after}

-- rows closed up twice
closed_twice : {A : Type 0} (z : A) (xs ys : List A) (count : ℕ) (rows : List A) → length ys ≤ length xs → length xs ≤ count
    → closed_up z ys (length xs) (closed_up z xs count rows) ≡ closed_up z ys count rows
closed_twice z xs ys count rows i j =
    let e : length xs - length ys + (count - length xs) ≡ count - length ys = omega arith in
    ap (λ r. ys ++ r)
    (ap (λ r. replicate (length xs - length ys) z ++ r) (drop-append_seam xs (replicate (count - length xs) z ++ drop count rows))
    ∙ (sym (append_assoc (replicate (length xs - length ys) z) (replicate (count - length xs) z) (drop count rows))
    ∙ ap (λ r. r ++ drop count rows) (replicate-append-replicate (length xs - length ys) (count - length xs) z ∙ ap (λ n. replicate n z) e)))

-- place rows renumbered twice
renumbered_twice : (k l : Record → Bool) (rs : List Record) (v : ℕ) → renumbered l (keep k rs) (renumbered k rs v) ≡ renumbered (passes k l) rs v
renumbered_twice k l rs zero = refl
renumbered_twice k l rs (suc i) =
    case (k (get_or rs i zero_record))
    (λ e.
    let at : get_or (keep k rs) (length (keep k (take i rs))) zero_record ≡ get_or rs i zero_record = keep_get_d k zero_record i rs e in
    rw (e, at, keep_take k i rs, keep_keep k l (take i rs)))
    (λ e. rw e)

-- two reclaims, the second by a test of rows that does not look at cuts
module _ (s : Store) (f g : ℕ) (k l : Record → Bool) (κ μ : Branch → Bool) (plain : (b : Branch) (t : ℕ) → μ (with_cut b t) ≡ μ b)
    (z : Sizes s) (floor : ℕ) (c : Chain floor (newest s)) (c₁ : Chain f (newest (reclaimed s f k κ))) where
  abbrev s₁ : Store
  s₁ = reclaimed s f k κ

  records_twice : keep l (records s₁) ≡ keep (passes k l) (records s)
  records_twice = ap (keep l) (reclaimed_records s f k κ) ∙ keep_keep k l (records s)

  settled_twice : settled μ s₁ ≡ settled (passes κ μ) s
  settled_twice =
      settled_left μ s₁ f c₁
      ∙ (ap reverse (ap (left_rows μ) (reclaimed_newest s f k κ floor c) ∙ left_twice κ μ plain floor (newest s) c) ∙ sym (settled_left (passes κ μ) s floor c))

  reclaimed_twice : reclaimed s₁ g l μ ≡ reclaimed s g (passes k l) (passes κ μ)
  unfolding reclaimed
  reclaimed_twice =
      let b₁ : length (settled κ s) ≤ s.head.branches = omega (arith, length_settled s κ, length_branches s z) in
      let b₂ : length (settled μ s₁) ≤ length (settled κ s) = omega (arith, length_settled s₁ μ, ap length (reclaimed_branches s f k κ)) in
      let r₁ : length (keep k (records s)) ≤ s.head.records = omega (arith, length_keep k (records s), length_records s z) in
      let r₂ : length (keep l (records s₁)) ≤ length (keep k (records s)) = omega (arith, length_keep l (records s₁), ap length (reclaimed_records s f k κ)) in
      λ i. record {
        head = head_with s.head (length (settled_twice i)) (length (records_twice i)) s.head.now g;
        branch_rows =
            (closed_twice zero_branch (settled κ s) (settled μ s₁) s.head.branches s.branch_rows b₂ b₁
            ∙ ap (λ (x : List Branch). closed_up zero_branch x s.head.branches s.branch_rows) settled_twice) i;
        record_rows =
            (closed_twice zero_record (keep k (records s)) (keep l (records s₁)) s.head.records s.record_rows r₂ r₁
            ∙ ap (λ (x : List Record). closed_up zero_record x s.head.records s.record_rows) records_twice) i;
        place_rows =
            (map-map (renumbered l (records s₁)) (renumbered k (records s)) s.place_rows
            ∙ map_same _ _ s.place_rows
            (λ v _. ap (λ (x : List Record). renumbered l x (renumbered k (records s) v)) (reclaimed_records s f k κ) ∙ renumbered_twice k l (records s) v)) i;
        name_rows = s.name_rows;
        slab = s.slab;
      }

module _ (s : Store) (m : ℕ) (h : Sound s) (l : s.head.floor ≤ m) (u : m ≤ s.head.now) where
  -- reads give the same records
  given_same : is_given (after s m) m ≡ is_given s m
  unfolding is_given reclaimed names
  given_same =
      λ x r.
      some_readable_same (readable_from s m) s.head.now (λ t. is_at r.moment (lookup (after s m) r.address t)) (λ t. is_at r.moment (lookup s r.address t))
      (λ t i j. ap (is_at r.moment) (lookup_after s m h l u r.address t i j)) x

  kept_same : given (after s m) m ≡ given s m
  kept_same =
      (λ x. keep (given_same x) (records (after s m)))
      ∙ (ap (keep (is_given s m)) (records_after s m) ∙ (keep_keep (is_given s m) (is_given s m) (records s) ∙ (λ x. keep (λ r. and_self (is_given s m r) x) (records s))))

  twice : after (after s m) m ≡ after s m
  unfolding reclaimed names
  twice =
      (λ x. reclaimed (after s m) m (given_same x) (stays m (moments (names s)) (kept_same x)))
      ∙ (reclaimed_twice s m m (is_given s m) (is_given s m) (is_left s m) (is_left s m) (stays_cut m (moments (names s)) (given s m)) h.sizes _ (chain_of _ _ (newest s) h.rows)
      (chain_of m s.head.now (newest (after s m)) (sound_after s m h l u).rows)
      ∙ (λ x. reclaimed s m (λ r. and_self (is_given s m r) x) (λ b. and_self (is_left s m b) x)))

  frees_none : (after s m).head.records - length (given (after s m) m) ≡ 0
  unfolding reclaimed
  frees_none = omega (arith, ap length kept_same)

  second : step (after s m) (reclaim m) ≡ record { store = after s m; answer = accepted 0 }
  unfolding reclaimed
  second = reclaim_accepted (after s m) m (omega arith) u ∙ (λ x. record { store = twice x; answer = accepted (frees_none x) })

pub again : Again
again s m a = rw (reclaim_accepted s m a.low a.high) (second s m (check_sound s a.bits a.checked) a.low a.high)
