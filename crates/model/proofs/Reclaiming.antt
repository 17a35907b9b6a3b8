-- What a reclaim keeps of the invariant.
use Prim.Native.Nat.{ℕ, suc, ◌-◌, ◌≤◌}
use mathlib.Core.Path.{◌≡◌, refl, sym, ap, ◌∙◌}
use mathlib.Core.Logic.{inl, inr}
use mathlib.Core.List.{List, [], ◌∷◌, ◌++◌, map, reverse, reverse-reverse}
use mathlib.Core.Option.{Option, some, none}
use mathlib.Core.Bool.{Bool, true, false≢true}
use native.Mathlib.Omega.{arith}
use lib.Dec.{ltb}
use lib.ListN.{length, drop, replicate, length-append, length-drop, length-map, length-replicate, length-reverse}
use lib.Seq.{take-append_seam, length-take-le}
use borrow.Author.Tests.{ltb-false, le-ltb, eqb-true, eq-eqb}
use Rattle.model.specs.declared.Branch.{Branch}
use Rattle.model.specs.declared.Record.{Record}
use Rattle.model.specs.Store.{Store, branches, newest, records, names, moments, keep, zero_branch, zero_record, Page, page_of, found_page, ◌∈◌}
use Rattle.model.specs.Lookup.{holds, ancestry, lookup, is_at, readable_from, readable, is_given}
use Rattle.model.specs.Wire.{reclaim, accepted}
use Rattle.model.specs.Step.{unchanged, closed_up, stays, landing, with_cut, settled, reclaimed, do_reclaim, step}
use Rattle.model.specs.Reference.{Pair, Snapshot, Reference, has_moment, is_seen, accept, feed}
use Rattle.model.proofs.Base.{case, mem_keep, mem_map, map_mem, map_reverse, length_keep, keep_reverse, some_readable_intro, some_readable_elim, some_readable_same, readable_named, readable→, readable_less}
use Rattle.model.proofs.Latest.{case_option, first_found_keep, asc_unique}
use Rattle.model.specs.ByNumber.{Asc, Chain, SoundRows, find, Sizes, Fits, Sound}
use Rattle.model.proofs.Ancestry.{Holds, holds→, chain_of, Found, find→}
use Rattle.model.proofs.Settling.{→stays, stays_cut, left_rows, left_map, landing_stays, held_left, rows_left, find_rows}
use Rattle.model.proofs.Names.{names_stay}
use Rattle.model.proofs.Places.{reclaim_named, reclaim_used}
use Rattle.model.proofs.Invariant.{Reads, Inv, reference_of}
use Rattle.model.specs.Demand3.{key, Readable, Exact}
use Rattle.model.proofs.Moves.{readable_held, Stepping, refused_step_lem}
use Rattle.model.proofs.Writing.{rows_falls, length_records}

-- rows closed up
pub length_closed : {A : Type 0} (z : A) (kept : List A) (count : ℕ) (rows : List A) → length kept ≤ count → count ≤ length rows
    → length (closed_up z kept count rows) ≡ length rows
length_closed z kept count rows i j =
    simp (length-append, length-replicate, length-drop) (omega arith)

pub reclaimed_branches : (s : Store) (m : ℕ) (k : Record → Bool) (κ : Branch → Bool) → branches (reclaimed s m k κ) ≡ settled κ s
unfolding branches reclaimed
reclaimed_branches s m k κ = take-append_seam (settled κ s) (replicate (s.head.branches - length (settled κ s)) zero_branch ++ drop s.head.branches s.branch_rows)

pub settled_newest : (κ : Branch → Bool) (s : Store) (floor : ℕ) → Chain floor (newest s) → reverse (settled κ s) ≡ left_rows κ (newest s)
unfolding newest settled
settled_newest κ s floor h =
    let f : Branch → Branch = λ b. with_cut b (landing κ (newest s) b.cut) in
    map_reverse f (keep κ (branches s)) ∙ (ap (map f) (keep_reverse κ (branches s)) ∙ left_map κ floor (newest s) h)

pub settled_left : (κ : Branch → Bool) (s : Store) (floor : ℕ) → Chain floor (newest s) → settled κ s ≡ reverse (left_rows κ (newest s))
settled_left κ s floor h = sym (reverse-reverse (settled κ s)) ∙ ap reverse (settled_newest κ s floor h)

pub reclaimed_newest : (s : Store) (m : ℕ) (k : Record → Bool) (κ : Branch → Bool) (floor : ℕ) → Chain floor (newest s)
    → newest (reclaimed s m k κ) ≡ left_rows κ (newest s)
unfolding newest
reclaimed_newest s m k κ floor h = ap reverse (reclaimed_branches s m k κ) ∙ settled_newest κ s floor h

pub reclaimed_records : (s : Store) (m : ℕ) (k : Record → Bool) (κ : Branch → Bool) → records (reclaimed s m k κ) ≡ keep k (records s)
unfolding records reclaimed
reclaimed_records s m k κ =
    take-append_seam (keep k (records s)) (replicate (s.head.records - length (keep k (records s))) zero_record ++ drop s.head.records s.record_rows)

asc_keep : (k : Record → Bool) (rs : List Record) → Asc rs → Asc (keep k rs)
unfolding keep
asc_keep k [] h = tt
asc_keep k (r ∷ rs) h =
    let ih : Asc (keep k rs) = asc_keep k rs h.1 in
    case (k r)
    (λ e. rw e (λ q m. h.0 q (mem_keep k q rs m).0, ih))
    (λ e. rw e ih)

is_at→ : (n : ℕ) (o : Option Record) → is_at n o ≡ true → (r : Record) × (o ≡ some r) × (r.moment ≡ n)
is_at→ n none e = absurd (false≢true e)
is_at→ n (some r) e = (r, refl, eqb-true r.moment n e)

is_at_found_page : (n : ℕ) (slab : List ℕ) (o : Option Record) → is_at n o ≡ has_moment n (found_page slab o)
is_at_found_page n slab none = refl
is_at_found_page n slab (some r) = refl

keys_keep : (k : Record → Bool) (l : Pair → Bool) (rs : List Record) → ((r : Record) → k r ≡ l (key r)) → map key (keep k rs) ≡ keep l (map key rs)
unfolding keep
keys_keep k l [] h = refl
keys_keep k l (r ∷ rs) h =
    let ih : map key (keep k rs) ≡ keep l (map key rs) = keys_keep k l rs h in
    rw (h r) (case (l (key r)) (λ e. rw (e, ih)) (λ e. rw (e, ih)))

length_rows : (floor now : ℕ) (bs : List Branch) → SoundRows floor now bs → 1 ≤ length bs
length_rows floor now [] h = absurd h
length_rows floor now (b ∷ bs) h = omega arith

length_newest : (s : Store) → length (newest s) ≡ length (branches s)
unfolding newest
length_newest s = length-reverse (branches s)

pub length_branches : (s : Store) → Sizes s → length (branches s) ≡ s.head.branches
unfolding branches
length_branches s z = length-take-le s.head.branches s.branch_rows z.counted_high

pub length_settled : (s : Store) (κ : Branch → Bool) → length (settled κ s) ≤ length (branches s)
unfolding settled
length_settled s κ = omega (arith, length-map (keep κ (branches s)) (λ b. with_cut b (landing κ (newest s) b.cut)), length_keep κ (branches s))

-- the records that a reclaim keeps, the rows that it leaves, and the store after it
abbrev pub given : Store → ℕ → List Record
given s m = keep (is_given s m) (records s)

abbrev pub is_left : Store → ℕ → Branch → Bool
is_left s m = stays m (moments (names s)) (given s m)

abbrev pub after : Store → ℕ → Store
after s m = reclaimed s m (is_given s m) (is_left s m)

-- an accepted reclaim
pub reclaim_accepted : (s : Store) (m : ℕ) → s.head.floor ≤ m → m ≤ s.head.now
    → step s (reclaim m) ≡ record { store = after s m; answer = accepted (s.head.records - length (given s m)) }
unfolding step do_reclaim
reclaim_accepted s m l u = rw (le-ltb m s.head.floor l, le-ltb s.head.now m u)

pub records_after : (s : Store) (m : ℕ) → records (after s m) ≡ given s m
records_after s m = reclaimed_records s m (is_given s m) (is_left s m)

-- every row counted after it is of the four kinds: another cut changes nothing of that
pub needed_after : (s : Store) (m : ℕ) (b : Branch) → b ∈ branches (after s m) → stays m (moments (names s)) (records (after s m)) b ≡ true
unfolding settled
needed_after s m b i =
    let f : Branch → Branch = λ d. with_cut d (landing (is_left s m) (newest s) d.cut) in
    let d : (c : Branch) × (c ∈ keep (is_left s m) (branches s)) × (b ≡ f c) =
    map_mem f b (keep (is_left s m) (branches s)) (rw (reclaimed_branches s m (is_given s m) (is_left s m)) at i) in
    rw (records_after s m, d.2) (stays_cut m (moments (names s)) (given s m) d.0 _ ∙ (mem_keep (is_left s m) d.0 (branches s) d.1).1)

-- a record that some read gives
pub record Given (s : Store) (m : ℕ) (r : Record) : Type 0 where
  pub moment : ℕ
  pub low : readable_from s m moment ≡ true
  pub high : moment ≤ s.head.now
  pub found : lookup s r.address moment ≡ some r

module _ (s : Store) (m : ℕ) (h : Sound s) (l : s.head.floor ≤ m) (u : m ≤ s.head.now) where
  pub given→ : (r : Record) → r ∈ records s → is_given s m r ≡ true → Given s m r
  unfolding is_given lookup
  given→ r i e =
      let g : (t : ℕ) × (readable_from s m t ≡ true) × (t ≤ s.head.now) × (is_at r.moment (lookup s r.address t) ≡ true) = some_readable_elim (readable_from s m) s.head.now _ e in
      let f : (q : Record) × (lookup s r.address g.0 ≡ some q) × (q.moment ≡ r.moment) = is_at→ r.moment (lookup s r.address g.0) g.3 in
      let d : Found (records s) r.address g.0 (newest s) f.0 =
      find→ (records s) r.address (newest s) (rows_falls _ _ (newest s) h.rows) g.0 f.0 f.1 in
      let q : f.0 ≡ r = asc_unique (records s) f.0 r h.ascends d.counted i d.at f.2 in
      record { moment = g.0; low = g.1; high = g.2; found = f.1 ∙ ap (λ (x : Record). some x) q }

  pub →given : (a t : ℕ) (r : Record) → readable_from s m t ≡ true → t ≤ s.head.now → lookup s a t ≡ some r → is_given s m r ≡ true
  unfolding is_given lookup
  →given a t r i j e =
      let d : Found (records s) a t (newest s) r = find→ (records s) a (newest s) (rows_falls _ _ (newest s) h.rows) t r e in
      let e' : lookup s r.address t ≡ some r = ap (λ (x : ℕ). lookup s x t) d.at ∙ e in
      some_readable_intro (readable_from s m) s.head.now (λ x. is_at r.moment (lookup s r.address x)) t i j (rw e' (eq-eqb r.moment r.moment refl))

  -- what the higher floor leaves readable was readable
  pub lower : (t : ℕ) → readable_from s m t ≡ true → readable s t ≡ true
  lower t = readable_less s.head.floor m _ _ t l (readable_named s.head.floor (moments (names s)))

  abbrev κ : Branch → Bool
  κ = is_left s m

  pub first : (b : Branch) → b.start ≡ 0 → κ b ≡ true
  first b e = →stays m (moments (names s)) (given s m) b (inl e)

  late : (b : Branch) → m ≤ b.end → κ b ≡ true
  late b i = →stays m (moments (names s)) (given s m) b (inr (inl i))

  -- a row that holds a named moment, a readable moment or a kept record is left
  named_row : (b : Branch) (t : ℕ) → t ∈ moments (names s) → holds b t ≡ true → κ b ≡ true
  named_row b t i e = →stays m (moments (names s)) (given s m) b (inr (inr (inl (t, i, e))))

  pub readable_row : (b : Branch) (t : ℕ) → readable_from s m t ≡ true → holds b t ≡ true → κ b ≡ true
  readable_row b t i e =
      elim (readable→ m (moments (names s)) t i) [
        | inl j ↦ let y : Holds b t = holds→ b t e in late b (omega arith)
        | inr j ↦ named_row b t j e
      ]

  record_row : (b : Branch) (r : Record) → r ∈ given s m → holds b r.moment ≡ true → κ b ≡ true
  record_row b r i e = →stays m (moments (names s)) (given s m) b (inr (inr (inr (r, i, e))))

  pub chain : Chain s.head.floor (newest s)
  chain = chain_of _ _ (newest s) h.rows

  kept_find : (a t : ℕ) → readable_from s m t ≡ true → t ≤ s.head.now → find (given s m) a (left_rows κ (newest s)) t ≡ lookup s a t
  unfolding lookup
  kept_find a t i j =
      let e : landing κ (newest s) t ≡ t = landing_stays κ (newest s) t (λ b _ e. readable_row b t i e) in
      ap (find (given s m) a (left_rows κ (newest s))) (sym e)
      ∙ (find_rows κ _ first (given s m) a record_row (newest s) t chain (readable_held s h t (lower t i) j)
      ∙ first_found_keep (is_given s m) (records s) a (ancestry (newest s) t) (λ r d. →given a t r i j d))

  pub newest_after : newest (after s m) ≡ left_rows κ (newest s)
  newest_after = reclaimed_newest s m (is_given s m) κ _ chain

  -- reads at readable moments give what they gave
  pub lookup_after : (a t : ℕ) → readable_from s m t ≡ true → t ≤ s.head.now → lookup (after s m) a t ≡ lookup s a t
  unfolding lookup
  lookup_after a t i j = rw (records_after s m, newest_after) (kept_find a t i j)

  -- the tables stay sound
  pub sound_after : Sound (after s m)
  unfolding reclaimed names
  sound_after =
      let z : Sizes s = h.sizes in
      let rows : SoundRows m s.head.now (left_rows κ (newest s)) = rows_left κ _ first m l s.head.now (newest s) (λ b _. late b) (omega arith) h.rows in
      let rows' : SoundRows m s.head.now (newest (after s m)) = rw newest_after rows in
      let ln : length (records s) ≡ s.head.records = length_records s z in
      let lb : length (branches s) ≡ s.head.branches = length_branches s z in
      let kr : length (given s m) ≤ length (records s) = length_keep (is_given s m) (records s) in
      let kb : length (settled κ s) ≤ length (branches s) = length_settled s κ in
      let cr : length (after s m).record_rows ≡ length s.record_rows = length_closed zero_record (given s m) s.head.records s.record_rows (omega arith) (omega arith) in
      let cb : length (after s m).branch_rows ≡ length s.branch_rows = length_closed zero_branch (settled κ s) s.head.branches s.branch_rows (omega arith) (omega arith) in
      let cp : length (after s m).place_rows ≡ length s.place_rows = length-map s.place_rows _ in
      let one : 1 ≤ length (settled κ s) =
      omega (arith, length_rows _ _ (newest (after s m)) rows', length_newest (after s m), ap length (reclaimed_branches s m (is_given s m) κ)) in
      record {
        sizes = omega arith;
        rows = rows';
        names =
            rw newest_after
            (names_stay _ _ (newest s) _ (names s) (omega arith)
            (λ n i g. held_left κ (newest s) n.moment (λ b _ e. named_row b n.moment (mem_map (λ x. x.moment) n (names s) i) e) g.held)
            h.names);
        ascends = rw (records_after s m) (asc_keep (is_given s m) (records s) h.ascends);
        fits =
            rw (records_after s m, newest_after)
            (λ r i.
            let k : (r ∈ records s) × (is_given s m r ≡ true) = mem_keep (is_given s m) r (records s) i in
            let f : Fits s.head.size s.head.now (newest s) r = h.fits r k.0 in
            record { address = f.address; moment = f.moment; held = held_left κ (newest s) r.moment (λ b _ e. record_row b r i e) f.held });
        named = rw (records_after s m) (reclaim_named (is_given s m) (records s) s.place_rows h.named);
        in_use = reclaim_used (is_given s m) (records s) s.place_rows h.named (h.in_use ∙ sym ln);
      }

  given_seen : (snaps : ℕ → Snapshot) → Reads s snaps → (r : Record) → is_given s m r ≡ is_seen (reference_of s snaps) m (key r)
  unfolding is_given is_seen
  given_seen snaps rd r =
      some_readable_same (readable_from s m) s.head.now _ _
      (λ t i j. is_at_found_page r.moment s.slab (lookup s r.address t) ∙ ap (has_moment r.moment) (rd r.address t (lower t i) j))

-- every page of a readable snapshot is a counted record's
pub stored_any : (s : Store) (p : Reference) → Inv s p → (a t : ℕ) (g : Page) → Readable p t → p.snapshot t a ≡ some g
    → (r : Record) × (r ∈ records s) × (r.address ≡ a) × (page_of s.slab r ≡ g)
unfolding lookup
stored_any s p v a t g i e =
    let en : s.head.now ≡ p.now = v.now in
    let low : readable s t ≡ true = rw (v.names, v.floor) i.low in
    let c : found_page s.slab (lookup s a t) ≡ some g = v.reads a t low (omega arith) ∙ e in
    case_option (lookup s a t)
    (λ n.
    let c' : none ≡ some g = rw n at c in
    let z : ◌≡◌ {A = ℕ} 0 1 = cc in
    absurd (omega arith))
    (λ r f.
    let c' : some (page_of s.slab r) ≡ some g = rw f at c in
    let d : Found (records s) a t (newest s) r = find→ (records s) a (newest s) (rows_falls _ _ (newest s) v.sound.rows) t r f in
    let q : page_of s.slab r ≡ g = cc in
    (r, d.counted, d.at, q))

module _ (s : Store) (snaps : ℕ → Snapshot) (m : ℕ) (h : Sound s) (rd : Reads s snaps) (l : s.head.floor ≤ m) (u : m ≤ s.head.now) where
  abbrev reference : Reference
  reference = accept (reference_of s snaps) (reclaim m)

  keys : map key (given s m) ≡ keep (is_seen (reference_of s snaps) m) (map key (records s))
  keys = keys_keep (is_given s m) (is_seen (reference_of s snaps) m) (records s) (given_seen s m h l u snaps rd)

  reclaim_inv : Inv (after s m) reference
  unfolding accept reclaimed names
  reclaim_inv =
      record {
        sound = sound_after s m h l u;
        now = refl;
        floor = refl;
        names = refl;
        held = rw (records_after s m) keys;
        reads = λ a t i j. ap (found_page s.slab) (lookup_after s m h l u a t i j) ∙ rd a t (lower s m h l u t i) j;
      }

  reclaim_exact : Exact (after s m) reference
  unfolding accept reclaimed names
  reclaim_exact =
      record {
        seen =
            rw (records_after s m)
            (λ r i.
            let k : (r ∈ records s) × (is_given s m r ≡ true) = mem_keep (is_given s m) r (records s) i in
            let g : Given s m r = given→ s m h l u r k.0 k.1 in
            (g.moment, record { low = g.low; high = g.high }, sym (rd r.address g.moment (lower s m h l u g.moment g.low) g.high) ∙ ap (found_page s.slab) g.found));
        stored = stored_any (after s m) reference reclaim_inv;
        needed = needed_after s m;
      }

  freed : s.head.records - length (given s m) ≡ length (map key (records s)) - length (keep (is_seen (reference_of s snaps) m) (map key (records s)))
  freed =
      let a : length (map key (records s)) ≡ length (records s) = length-map (records s) key in
      let b : length (map key (given s m)) ≡ length (given s m) = length-map (given s m) key in
      let c : length (map key (given s m)) ≡ length (keep (is_seen (reference_of s snaps) m) (map key (records s))) = ap length keys in
      let d : length (records s) ≡ s.head.records = length_records s h.sizes in
      omega arith

  reclaim_done : Stepping s (reference_of s snaps) (reclaim m) (record { store = after s m; answer = accepted (s.head.records - length (given s m)) })
  unfolding feed reclaimed
  reclaim_done = record { inv = reclaim_inv; right = λ x. ap accepted freed; size = refl; exact = λ x. reclaim_exact }

pub reclaim_step : (s : Store) (snaps : ℕ → Snapshot) (m : ℕ) → Sound s → Reads s snaps → Stepping s (reference_of s snaps) (reclaim m) (do_reclaim s m)
unfolding do_reclaim
reclaim_step s snaps m h r =
    case (ltb m s.head.floor)
    (λ e. rw e (no 7))
    (λ e₁.
    case (ltb s.head.now m)
    (λ e. rw (e₁, e) (no 8))
    (λ e₂. rw (e₁, e₂) (reclaim_done s snaps m h r (ltb-false m s.head.floor e₁) (ltb-false s.head.now m e₂))))
  where
    no : (n : ℕ) → Stepping s (reference_of s snaps) (reclaim m) (unchanged s (suc n))
    no n = refused_step_lem s snaps h r n (reclaim m) (λ x. absurd (omega arith))
