-- What each request keeps of the invariant: refusals, mark, revert.
use Prim.Native.Nat.{ℕ, suc, ◌+◌, ◌-◌, ◌≤◌, ◌<◌}
use mathlib.Core.Path.{◌≡◌, refl, sym, ap, ◌∙◌}
use mathlib.Core.Logic.{◌≢◌, inl, inr}
use mathlib.Core.List.{List, [], ◌∷◌, ◌++◌, reverse}
use mathlib.Core.Option.{Option, none}
use mathlib.Core.Bool.{true, false, false≢true}
use native.Mathlib.Omega.{arith}
use native.Mathlib.Numerals.{add-one}
use lib.Dec.{leb, ltb, eqb, eqb-suc-zero}
use lib.ListN.{length, get_or, set, take, length-set}
use lib.Seq.{take-suc, take-suc-set}
use borrow.Author.Tests.{ltb-true, leb-true, leb-false, eqb-true, eqb-false, le-leb}
use Rattle.model.specs.declared.Branch.{Branch}
use Rattle.model.specs.declared.Record.{Record}
use Rattle.model.specs.declared.Name.{Name}
use Rattle.model.specs.Store.{Store, branches, newest, records, names, moments, any, open_end, zero_branch, found_page, ◌∈◌}
use Rattle.model.specs.Lookup.{holds, within, or_else, latest, lookup, readable}
use Rattle.model.specs.Wire.{Request, write, mark, revert, read_at, reclaim, give, withdraw, refused, accepted}
use Rattle.model.specs.Step.{Stepped, unchanged, do_mark, closed_at, branched, do_revert}
use Rattle.model.specs.Reference.{Snapshot, Reference, with_snapshot, accept, feed}
use Rattle.model.proofs.Base.{case, absurd_test, reverse_snoc, map_mem, readable_above, readable→}
use Rattle.model.proofs.Latest.{Within, not_within, latest_none, latest_same}
use Rattle.model.proofs.Ancestry.{→holds, not_holds, any_head, any_tail, find_hold, find_skip}
use Rattle.model.specs.ByNumber.{Chain, Open, SoundRows, find, Sizes, Fits, NameFits, Sound}
use Rattle.model.proofs.Names.{names_stay}
use Rattle.model.proofs.Invariant.{Reads, Inv, reference_of}
use Rattle.model.specs.Demand3.{refuses, Right, accepted_reclaim, Exact}

-- a request and what it left, against the reference before it
pub record Stepping (s : Store) (p : Reference) (q : Request) (st : Stepped) : Type 0 where
  pub inv : Inv st.store (feed p q (refuses st.answer))
  pub right : Right s.head.size p q st.answer
  pub size : st.store.head.size ≡ s.head.size
  pub exact : accepted_reclaim q st.answer ≡ true → Exact st.store (feed p q (refuses st.answer))

pub same_inv : (s : Store) (snaps : ℕ → Snapshot) → Sound s → Reads s snaps → Inv s (reference_of s snaps)
same_inv s snaps h r = record { sound = h; now = refl; floor = refl; names = refl; held = refl; reads = r }

not_reclaim : (q : Request) (n : ℕ) → accepted_reclaim q (refused (suc n)) ≡ false
not_reclaim (write a page) n = refl
not_reclaim mark n = refl
not_reclaim (revert m w) n = refl
not_reclaim (read_at a m) n = refl
not_reclaim (reclaim m) n = eqb-suc-zero n
not_reclaim (give x) n = refl
not_reclaim (withdraw high low) n = refl

-- a refusal changes nothing
pub refused_step_lem : (s : Store) (snaps : ℕ → Snapshot) → Sound s → Reads s snaps → (n : ℕ) (q : Request) → Right s.head.size (reference_of s snaps) q (refused (suc n))
    → Stepping s (reference_of s snaps) q (unchanged s (suc n))
unfolding feed
refused_step_lem s snaps h r n q i =
    record {
      inv = rw (eqb-suc-zero n) (same_inv s snaps h r);
      right = i;
      size = refl;
      exact = λ e. absurd_test e (not_reclaim q n);
    }

pub rows_later : (floor now now' : ℕ) (bs : List Branch) → now ≤ now' → SoundRows floor now bs → SoundRows floor now' bs
rows_later floor now now' [] l h = absurd h
rows_later floor now now' (b ∷ bs) l h = (record { still = h.0.still; begun = omega (arith, h.0.begun) }, h.1)

-- no record is later than now
abbrev pub UpTo : ℕ → List Record → Type 0
UpTo now rs = (r : Record) → r ∈ rs → r.moment ≤ now

pub up_to : (s : Store) → Sound s → UpTo s.head.now (records s)
up_to s h r m = (h.fits r m).moment

-- now grows by 1, and the new snapshot is a copy of that at src
sealed_reads : (s : Store) (snaps : ℕ → Snapshot) (look : ℕ → ℕ → Option Record) (src : ℕ) → Reads s snaps → readable s src ≡ true → src ≤ s.head.now
    → ((a t : ℕ) → readable s t ≡ true → t ≤ s.head.now → look a t ≡ lookup s a t) → ((a : ℕ) → look a (s.head.now + 1) ≡ lookup s a src)
    → (a t : ℕ) → readable s t ≡ true → t ≤ s.head.now + 1 → found_page s.slab (look a t) ≡ with_snapshot snaps (s.head.now + 1) (snaps src) t a
sealed_reads s snaps look src r l h old new a t i j =
    case (eqb t (s.head.now + 1))
    (λ e.
    let q : t ≡ s.head.now + 1 = eqb-true t (s.head.now + 1) e in
    let c : look a t ≡ lookup s a src = ap (look a) q ∙ new a in
    rw (e, c) (r a src l h))
    (λ e.
    let ne : t ≢ s.head.now + 1 = eqb-false t (s.head.now + 1) e in
    rw (e, old a t i (omega arith)) (r a t i (omega arith)))

within_later : (a lo now : ℕ) (q : Record) → q.moment ≤ now → within a lo (now + 1) q ≡ within a lo now q
unfolding within
within_later a lo now q i = rw (le-leb q.moment (now + 1) (omega arith), le-leb q.moment now i)

mark_find : (rs : List Record) (a floor now : ℕ) (bs : List Branch) → now < open_end → SoundRows floor now bs → UpTo now rs
    → find rs a bs (now + 1) ≡ find rs a bs now
mark_find rs a floor now [] l h u = absurd h
mark_find rs a floor now (b ∷ bs) l h u =
    let o : Open now b = h.0 in
    let e : latest rs a b.start (now + 1) ≡ latest rs a b.start now =
    latest_same rs a b.start (now + 1) b.start now (λ q m. within_later a b.start now q (u q m)) in
    find_hold rs a b bs (now + 1) (→holds b (now + 1) (omega arith) (omega arith))
    ∙ (ap (λ (x : Option Record). or_else x (find rs a bs b.cut)) e ∙ sym (find_hold rs a b bs now (→holds b now (omega arith) (omega arith))))

pub mark_step : (s : Store) (snaps : ℕ → Snapshot) → Sound s → Reads s snaps → Stepping s (reference_of s snaps) mark (do_mark s)
unfolding do_mark feed accept newest branches records names lookup
mark_step s snaps h r =
    case (ltb s.head.now open_end)
    (λ e.
    let l : s.head.now < open_end = ltb-true s.head.now open_end e in
    let z : Sizes s = h.sizes in
    rw e
    (record {
      inv =
          record {
            sound =
                record {
                  sizes = omega arith;
                  rows = rows_later _ _ _ (newest s) (omega arith) h.rows;
                  names = names_stay _ _ (newest s) (newest s) (names s) (omega arith) (λ n m (g : NameFits s.head.now (newest s) n). g.held) h.names;
                  ascends = h.ascends;
                  fits =
                      λ q m. let f : Fits s.head.size s.head.now (newest s) q = h.fits q m in
                      record { address = f.address; moment = omega arith; held = f.held };
                  named = h.named;
                  in_use = h.in_use;
                };
            now = refl;
            floor = refl;
            names = refl;
            held = refl;
            reads =
                sealed_reads s snaps (lookup s) s.head.now r (readable_above _ _ s.head.now z.floor_now) (omega arith) (λ a t i j. refl)
                (λ a. mark_find (records s) a _ _ (newest s) l h.rows (up_to s h));
          };
      right = λ x. refl;
      size = refl;
      exact = λ x. absurd (false≢true x);
    }))
    (λ e. rw e
    (record { inv = same_inv s snaps h r; right = λ x. absurd (omega arith); size = refl; exact = λ x. absurd (false≢true x) }))

-- a row closed at now holds the same moments up to now
holds_closed : (b : Branch) (now x : ℕ) → x ≤ now → now ≤ b.end → holds (closed_at now b) x ≡ holds b x
unfolding holds
holds_closed b now x i l = rw (le-leb x now i, le-leb x b.end (omega arith))

pub any_closed : (b : Branch) (bs : List Branch) (now x : ℕ) → x ≤ now → now ≤ b.end
    → any (λ d. holds d x) (closed_at now b ∷ bs) ≡ any (λ d. holds d x) (b ∷ bs)
unfolding any
any_closed b bs now x i l = rw (holds_closed b now x i l)

find_closed : (rs : List Record) (a : ℕ) (b : Branch) (bs : List Branch) (now t : ℕ) → t ≤ now → now ≤ b.end
    → find rs a (closed_at now b ∷ bs) t ≡ find rs a (b ∷ bs) t
find_closed rs a b bs now t i l =
    let e : holds (closed_at now b) t ≡ holds b t = holds_closed b now t i l in
    case (holds b t)
    (λ d. find_hold rs a (closed_at now b) bs t (e ∙ d) ∙ sym (find_hold rs a b bs t d))
    (λ d. find_skip rs a (closed_at now b) bs t (e ∙ d) ∙ sym (find_skip rs a b bs t d))

-- every moment from the floor to the newest row's end is held
pub covered : (floor : ℕ) (b : Branch) (bs : List Branch) (t : ℕ) → Chain floor (b ∷ bs) → floor ≤ t → t ≤ b.end → any (λ d. holds d t) (b ∷ bs) ≡ true
covered floor b [] t h i j = any_head b [] t (→holds b t (omega arith) j)
covered floor b (c ∷ bs) t h i j =
    case (leb b.start t)
    (λ e. any_head b (c ∷ bs) t (→holds b t (leb-true b.start t e) j))
    (λ e.
    let l : t < b.start = leb-false b.start t e in
    let f : b.start ≡ c.end + 1 = h.0.follows (omega arith) in
    any_tail b (c ∷ bs) t (covered floor c bs t h.1 i (omega arith)))

-- every readable moment up to now is held
pub rows_covered : (floor now t : ℕ) (bs : List Branch) → SoundRows floor now bs → now ≤ open_end → floor ≤ t → t ≤ now → any (λ d. holds d t) bs ≡ true
rows_covered floor now t [] h n i j = absurd h
rows_covered floor now t (b ∷ bs) h n i j = covered floor b bs t h.1 i (omega (arith, h.0))

pub readable_held : (s : Store) → Sound s → (t : ℕ) → readable s t ≡ true → t ≤ s.head.now → any (λ d. holds d t) (newest s) ≡ true
readable_held s h t e l =
    elim (readable→ _ (moments (names s)) t e) [
      | inl i ↦ rows_covered _ _ t (newest s) h.rows h.sizes.now_high i l
      | inr i ↦
          let g : (n : Name) × (n ∈ names s) × (t ≡ n.moment) = map_mem (λ n. n.moment) t (names s) i in
          rw g.2 (h.names.fit g.0 g.1).held
    ]

chain_closed : (floor now : ℕ) (b : Branch) (bs : List Branch) → b.start ≤ now → Chain floor (b ∷ bs) → Chain floor (closed_at now b ∷ bs)
chain_closed floor now b [] l h = record { start = h.start; cut = h.cut; order = h.order; ordered = l }
chain_closed floor now b (c ∷ bs) l h =
    (record { ordered = l; after = h.0.after; follows = h.0.follows; parent = h.0.parent; order = h.0.order }, h.1)

-- the branch that a revert begins
abbrev pub begun : ℕ → ℕ → ℕ → Branch
begun now m w = record { start = now + 1; end = open_end; cut = m; order = w }

counted_rows : (rows : List Branch) (k : ℕ) → k < length rows → reverse (take (suc k) rows) ≡ get_or rows k zero_branch ∷ reverse (take k rows)
counted_rows rows k l = rw (take-suc rows k zero_branch l) (reverse_snoc (take k rows) (get_or rows k zero_branch))

branched_rows : (rows : List Branch) (k : ℕ) (c n : Branch) → suc k < length rows
    → reverse (take (suc (suc k)) (set (set rows k c) (suc k) n)) ≡ n ∷ c ∷ reverse (take k rows)
branched_rows rows k c n l =
    let l' : suc k < length (set rows k c) = rw (length-set rows k c) l in
    let e : take (suc (suc k)) (set (set rows k c) (suc k) n) ≡ take (suc k) (set rows k c) ++ (n ∷ []) = take-suc-set (set rows k c) (suc k) n l' in
    let d : take (suc k) (set rows k c) ≡ take k rows ++ (c ∷ []) = take-suc-set rows k c (omega arith) in
    ap reverse e ∙ (reverse_snoc (take (suc k) (set rows k c)) n ∙ ap (λ (x : List Branch). n ∷ x) (ap reverse d ∙ reverse_snoc (take k rows) c))

pub record Branching (s : Store) (m w : ℕ) : Type 0 where
  pub row : Branch
  pub earlier : List Branch
  pub was : newest s ≡ row ∷ earlier
  pub is : newest (branched s m w) ≡ begun s.head.now m w ∷ closed_at s.head.now row ∷ earlier

pub branching : (s : Store) (m w k : ℕ) → s.head.branches ≡ suc k → s.head.branches - 1 ≡ k → suc k < length s.branch_rows → Branching s m w
unfolding newest branches branched
branching s m w k e d l =
    record {
      row = get_or s.branch_rows k zero_branch;
      earlier = reverse (take k s.branch_rows);
      was = rw e (counted_rows s.branch_rows k (omega arith));
      is = rw (d, e, add-one (suc k)) (branched_rows s.branch_rows k _ _ l);
    }

revert_rows : (floor now m w : ℕ) (b : Branch) (bs : List Branch) → now < open_end → any (λ d. holds d m) (b ∷ bs) ≡ true → m < now → w ≤ 65535 → SoundRows floor now (b ∷ bs)
    → SoundRows floor (now + 1) (begun now m w ∷ closed_at now b ∷ bs)
revert_rows floor now m w b bs i j l v h =
    let o : Open now b = h.0 in (
      record { still = refl; begun = omega arith },
      (
        record {
          ordered = omega arith;
          after = omega arith;
          follows = λ x. refl;
          parent = any_closed b bs now m (omega arith) (omega arith) ∙ j;
          order = v;
        },
        chain_closed floor now b bs o.begun h.1,
      ),
    )

-- reads up to now stay, and the new branch reads as the moment reverted to
revert_old : (rs : List Record) (a now m w : ℕ) (b : Branch) (bs : List Branch) (t : ℕ) → t ≤ now → now ≤ b.end
    → find rs a (begun now m w ∷ closed_at now b ∷ bs) t ≡ find rs a (b ∷ bs) t
revert_old rs a now m w b bs t i l =
    find_skip rs a (begun now m w) (closed_at now b ∷ bs) t (not_holds (begun now m w) t (omega arith)) ∙ find_closed rs a b bs now t i l

revert_new : (rs : List Record) (a now m w : ℕ) (b : Branch) (bs : List Branch) → m ≤ now → now ≤ b.end → now < open_end → UpTo now rs
    → find rs a (begun now m w ∷ closed_at now b ∷ bs) (now + 1) ≡ find rs a (b ∷ bs) m
revert_new rs a now m w b bs i l o u =
    let e : latest rs a (now + 1) (now + 1) ≡ none =
    latest_none rs a (now + 1) (now + 1)
    (λ q k. not_within a (now + 1) (now + 1) q (λ (x : Within a (now + 1) (now + 1) q). let f : q.moment ≤ now = u q k in omega arith)) in
    find_hold rs a (begun now m w) (closed_at now b ∷ bs) (now + 1) (→holds (begun now m w) (now + 1) (omega arith) (omega arith))
    ∙ (ap (λ (x : Option Record). or_else x (find rs a (closed_at now b ∷ bs) m)) e ∙ find_closed rs a b bs now m i l)

-- an accepted revert: the moment can be read and is sealed, now can grow, and a branch row is free
pub record Taken (s : Store) (m w : ℕ) : Type 0 where
  pub low : readable s m ≡ true
  pub sealed : m < s.head.now
  pub later : s.head.now < open_end
  pub room : s.head.branches < length s.branch_rows
  pub stepped : ◌≡◌ {A = Stepped} (record { store = branched s m w; answer = accepted s.head.now }) (do_revert s m w)

pub revert_taken : (s : Store) (m w : ℕ) → (do_revert s m w).answer.refusal ≡ 0 → Taken s m w
unfolding do_revert
revert_taken s m w z =
    case (readable s m)
    (λ e.
    case (leb s.head.now m) (λ f. absurd (no 8 (rw (e, f) at z)))
    (λ f.
    case (leb open_end s.head.now) (λ g. absurd (no 9 (rw (e, f, g) at z)))
    (λ g.
    case (leb (length s.branch_rows) s.head.branches) (λ h. absurd (no 6 (rw (e, f, g, h) at z)))
    (λ h. record { low = e; sealed = leb-false _ _ f; later = leb-false _ _ g; room = leb-false _ _ h; stepped = rw (e, f, g, h) }))))
    (λ e. absurd (no 7 (rw e at z)))
  where
    no : (n : ℕ) → suc n ≡ 0 → ⊥
    no n d = omega (arith, d)

pub revert_inv : (s : Store) (snaps : ℕ → Snapshot) (m w : ℕ) → w ≤ 65535 → Sound s → Reads s snaps → readable s m ≡ true → m < s.head.now → s.head.now < open_end
    → s.head.branches < length s.branch_rows → Branching s m w → Inv (branched s m w) (accept (reference_of s snaps) (revert m w))
unfolding accept records names lookup branched
revert_inv s snaps m w v h r i j l c b =
    let z : Sizes s = h.sizes in
    let n : length (branched s m w).branch_rows ≡ length s.branch_rows = simp length-set in
    let rows : SoundRows s.head.floor s.head.now (b.row ∷ b.earlier) = rw b.was at h.rows in
    let o : Open s.head.now b.row = rows.0 in
    let kept : (x : ℕ) → x ≤ s.head.now → any (λ d. holds d x) (newest s) ≡ true → any (λ d. holds d x) (newest (branched s m w)) ≡ true =
    λ x k e. rw b.is (any_tail _ _ x (any_closed b.row b.earlier s.head.now x k (omega arith) ∙ rw b.was at e)) in
    record {
      sound =
          record {
            sizes = omega arith;
            names =
                names_stay _ _ (newest s) (newest (branched s m w)) (names s) (omega arith)
                (λ n k (f : NameFits s.head.now (newest s) n). kept n.moment (omega (arith, f.below)) f.held) h.names;
            rows = rw b.is (revert_rows _ _ m w b.row b.earlier l (rw b.was at (readable_held s h m i (omega arith))) j v rows);
            ascends = h.ascends;
            fits =
                λ q k. let f : Fits s.head.size s.head.now (newest s) q = h.fits q k in
                record { address = f.address; moment = omega (arith, f.moment); held = kept q.moment f.moment f.held };
            named = h.named;
            in_use = h.in_use;
          };
      now = refl;
      floor = refl;
      names = refl;
      held = refl;
      reads =
          sealed_reads s snaps (lookup (branched s m w)) m r i (omega arith)
          (λ a t _ k. rw (b.is, b.was) (revert_old (records s) a s.head.now m w b.row b.earlier t k (omega arith)))
          (λ a. rw (b.is, b.was) (revert_new (records s) a s.head.now m w b.row b.earlier (omega arith) (omega arith) l (up_to s h)));
    }

pub revert_step : (s : Store) (snaps : ℕ → Snapshot) (m w : ℕ) → w ≤ 65535 → Sound s → Reads s snaps
    → Stepping s (reference_of s snaps) (revert m w) (do_revert s m w)
unfolding do_revert feed branched
revert_step s snaps m w v h r =
    case (readable s m)
    (λ e₁.
    case (leb s.head.now m)
    (λ e. rw (e₁, e) (no 8))
    (λ e₂.
    case (leb open_end s.head.now)
    (λ e. rw (e₁, e₂, e) (no 9))
    (λ e₃.
    case (leb (length s.branch_rows) s.head.branches)
    (λ e. rw (e₁, e₂, e₃, e) (no 6))
    (λ e₄.
    rw (e₁, e₂, e₃, e₄)
    (record {
      inv =
          revert_inv s snaps m w v h r e₁ (leb-false s.head.now m e₂) (leb-false open_end s.head.now e₃)
          (leb-false (length s.branch_rows) s.head.branches e₄) (forks (leb-false (length s.branch_rows) s.head.branches e₄));
      right = λ x. refl;
      size = refl;
      exact = λ x. absurd (false≢true x);
    })))))
    (λ e. rw e (no 7))
  where
    no : (n : ℕ) → Stepping s (reference_of s snaps) (revert m w) (unchanged s (suc n))
    no n = refused_step_lem s snaps h r n (revert m w) (λ x. absurd (omega arith))

    forks : s.head.branches < length s.branch_rows → Branching s m w
    forks c =
        let z : Sizes s = h.sizes in
        branching s m w (s.head.branches - 1) (omega arith) refl (omega arith)
