-- Readable moments that decide which records a reclaim keeps: the floor, each row's start above it, and the named ones. So a program need not try them all.
use Prim.Native.Nat.{ℕ, ◌≤◌, ◌<◌}
use mathlib.Core.Path.{◌≡◌, refl, sym, ◌∙◌}
use mathlib.Core.Logic.{◌⊎◌, inl, inr}
use mathlib.Core.List.{List, [], ◌∷◌}
use mathlib.Core.Option.{some, none}
use mathlib.Core.Bool.{Bool, true, false, ◌||◌, false≢true}
use native.Mathlib.Omega.{arith}
use lib.Dec.{leb, ltb}
use borrow.Author.Tests.{ltb-true, ltb-false, leb-true, leb-false, eq-eqb, lt-ltb}
use Rattle.model.specs.declared.Branch.{Branch}
use Rattle.model.specs.declared.Record.{Record}
use Rattle.model.specs.declared.Name.{Name}
use Rattle.model.specs.Store.{Store, newest, records, names, moments, keep, any, ◌∈◌}
use Rattle.model.specs.Lookup.{holds, within, or_else, latest, lookup, is_at, readable_from, some_readable, is_given}
use Rattle.model.proofs.Base.{case, or→, same_test, absurd_test, keep_mem, mem_keep, any_mem, mem_any, mem_left, mem_right, mem_append, mem_map, map_mem, some_readable_intro, readable_above, readable_named, readable→}
use Rattle.model.proofs.Latest.{case_option, Within, within→, →within, not_within, latest_top}
use Rattle.model.specs.ByNumber.{Asc, Link, Chain, SoundRows, find, Fits, Sound, candidates, deciding}
use Rattle.model.proofs.Ancestry.{Holds, holds→, →holds, not_holds, held_below, find_hold, find_skip, Below, earlier_below}
use Rattle.model.proofs.Moves.{covered}
use Rattle.model.proofs.Reclaiming.{Given, given→, →given}

-- t' is a candidate, at most t, and in the row of t
record Candidate (m t : ℕ) (bs : List Branch) : Type 0 where
  moment : ℕ
  low : m ≤ moment
  high : moment ≤ t
  listed : (moment ≡ m) ⊎ ((d : Branch) × (d ∈ bs) × (d.start ≡ moment) × (m < moment))
  finds : (rs : List Record) (a : ℕ) (r : Record) → r.moment < m → find rs a bs t ≡ some r → find rs a bs moment ≡ some r

latest_less : (rs : List Record) (a lo hi hi' : ℕ) → hi' ≤ hi → latest rs a lo hi ≡ none → latest rs a lo hi' ≡ none
unfolding latest
latest_less [] a lo hi hi' l e = refl
latest_less (q ∷ rs) a lo hi hi' l e =
    case_option (latest rs a lo hi)
    (λ n.
    let ih : latest rs a lo hi' ≡ none = latest_less rs a lo hi hi' l n in
    case (within a lo hi q)
    (λ w.
    let e' : some q ≡ none = rw (n, w) at e in
    let z : ◌≡◌ {A = ℕ} 0 1 = cc in absurd (omega arith))
    (λ w.
    let w' : within a lo hi' q ≡ false =
    not_within a lo hi' q
    (λ (i : Within a lo hi' q). absurd_test (→within a lo hi q (record { at = i.at; low = i.low; high = omega arith })) w) in
    rw (ih, w')))
    (λ x s.
    let e' : some x ≡ none = rw s at e in
    let z : ◌≡◌ {A = ℕ} 0 1 = cc in absurd (omega arith))

latest_back : (rs : List Record) (a lo hi hi' : ℕ) (r : Record) → hi' ≤ hi → r.moment ≤ hi' → latest rs a lo hi ≡ some r → latest rs a lo hi' ≡ some r
unfolding latest
latest_back [] a lo hi hi' r l h e = e
latest_back (q ∷ rs) a lo hi hi' r l h e =
    case_option (latest rs a lo hi)
    (λ n.
    case (within a lo hi q)
    (λ w.
    let e' : some q ≡ some r = rw (n, w) at e in
    let qr : q ≡ r = cc in
    let i : Within a lo hi q = within→ a lo hi q w in
    let hq : q.moment ≤ hi' = rw qr h in
    let w' : within a lo hi' q ≡ true = →within a lo hi' q (record { at = i.at; low = i.low; high = hq }) in
    rw (latest_less rs a lo hi hi' l n, w') e')
    (λ w.
    let e' : none ≡ some r = rw (n, w) at e in
    let z : ◌≡◌ {A = ℕ} 0 1 = cc in absurd (omega arith)))
    (λ x s.
    let e' : some x ≡ some r = rw s at e in
    rw (latest_back rs a lo hi hi' r l h (s ∙ e')))

find_own : (rs : List Record) (bs : List Branch) (r : Record) → Asc rs → r ∈ rs → any (λ d. holds d r.moment) bs ≡ true → find rs r.address bs r.moment ≡ some r
unfolding any
find_own rs [] r asc m e = absurd (false≢true e)
find_own rs (b ∷ bs) r asc m e =
    case (holds b r.moment)
    (λ h.
    let i : Holds b r.moment = holds→ b r.moment h in
    rw (find_hold rs r.address b bs r.moment h, latest_top rs r.address b.start r.moment r asc m refl refl i.low))
    (λ h. rw (find_skip rs r.address b bs r.moment h) (find_own rs bs r asc m (rw h at e)))

module _ (m t : ℕ) (b : Branch) (bs : List Branch) where
  -- another moment of the row that holds t
  candidate_at : (u : ℕ) → m ≤ u → u ≤ t → holds b t ≡ true → holds b u ≡ true → (u ≡ m) ⊎ ((d : Branch) × (d ∈ (b ∷ bs)) × (d.start ≡ u) × (m < u))
      → Candidate m t (b ∷ bs)
  candidate_at u i j y z k =
      record {
        moment = u;
        low = i;
        high = j;
        listed = k;
        finds =
            λ rs a r c f.
            let f' : or_else (latest rs a b.start t) (find rs a bs b.cut) ≡ some r = sym (find_hold rs a b bs t y) ∙ f in
            rw (find_hold rs a b bs u z)
            (case_option (latest rs a b.start t)
            (λ n. rw (latest_less rs a b.start t u j n) (rw n at f'))
            (λ x s.
            let e' : some x ≡ some r = rw s at f' in
            rw (latest_back rs a b.start t u r j (omega arith) (s ∙ e'))));
      }

  candidate_here : m ≤ t → holds b t ≡ true → Candidate m t (b ∷ bs)
  candidate_here l y =
      let i : Holds b t = holds→ b t y in
      case (ltb m b.start)
      (λ d.
      let k : m < b.start = ltb-true m b.start d in
      candidate_at b.start (omega arith) i.low y (→holds b b.start (omega arith) (omega arith)) (inr (b, inl refl, refl, k)))
      (λ d.
      let k : b.start ≤ m = ltb-false m b.start d in
      candidate_at m (omega arith) l y (→holds b m k (omega arith)) (inl refl))

  candidate_before : Candidate m t bs → t < b.start → Candidate m t (b ∷ bs)
  candidate_before k l =
      let y : holds b t ≡ false = not_holds b t l in
      let z : holds b k.moment ≡ false = not_holds b k.moment (omega (arith, k.high)) in
      record {
        moment = k.moment;
        low = k.low;
        high = k.high;
        listed = elim k.listed [ inl e ↦ inl e | inr d ↦ inr (d.0, inr d.1, d.2, d.3) ];
        finds = λ rs a r c f. find_skip rs a b bs k.moment z ∙ k.finds rs a r c (sym (find_skip rs a b bs t y) ∙ f);
      }

candidate : (floor m t : ℕ) (b : Branch) (bs : List Branch) → Chain floor (b ∷ bs) → m ≤ t → any (λ d. holds d t) (b ∷ bs) ≡ true → Candidate m t (b ∷ bs)
unfolding any
candidate floor m t b [] h l e = case (holds b t) (λ y. candidate_here m t b [] l y) (λ y. absurd (false≢true (rw y at e)))
candidate floor m t b (c ∷ bs) h l e =
    let ih : any (λ d. holds d t) (c ∷ bs) ≡ true → Candidate m t (c ∷ bs) = candidate floor m t c bs h.1 l in
    case (holds b t)
    (λ y. candidate_here m t b (c ∷ bs) l y)
    (λ y.
    let e' : any (λ d. holds d t) (c ∷ bs) ≡ true = rw y at e in
    let i : t ≤ c.end = held_below floor c bs t h.1 e' in
    let k : Link floor b c bs = h.0 in
    candidate_before m t b (c ∷ bs) (ih e') (omega arith))

listed_mem : (m t : ℕ) (bs : List Branch) (k : Candidate m t bs) → k.moment ∈ candidates m bs
listed_mem m t bs k =
    elim k.listed [
      | inl e ↦ inl e
      | inr d ↦
          let i : d.0 ∈ keep (λ b. ltb m b.start) bs = keep_mem (λ b. ltb m b.start) d.0 bs d.1 (lt-ltb m d.0.start (omega (arith, d.2, d.3))) in
          inr (rw d.2 at (mem_map (λ b. b.start) d.0 (keep (λ b. ltb m b.start) bs) i))
    ]

-- a moment held by sound rows has its candidate
rows_candidate : (floor now m t : ℕ) (bs : List Branch) → SoundRows floor now bs → now ≤ Rattle.model.specs.Store.open_end → floor ≤ m → m ≤ t → t ≤ now → Candidate m t bs
rows_candidate floor now m t [] h n i j l = absurd h
rows_candidate floor now m t (b ∷ bs) h n i j l = candidate floor m t b bs h.1 j (covered floor b bs t h.1 (omega arith) (omega (arith, h.0)))

started : (floor now : ℕ) (bs : List Branch) (d : Branch) → SoundRows floor now bs → d ∈ bs → d.start ≤ now
started floor now [] d h m = absurd h
started floor now (b ∷ bs) d h (inl e) = rw e h.0.begun
started floor now (b ∷ bs) d h (inr m) =
    let k : Below b d = earlier_below floor b bs d h.1 m in
    omega (arith, h.0.begun)

-- candidates are readable
rows_started : (floor now m x : ℕ) (bs : List Branch) → SoundRows floor now bs → m ≤ now → x ∈ candidates m bs → (m ≤ x) × (x ≤ now)
rows_started floor now m x bs h l (inl e) = (omega arith, omega arith)
rows_started floor now m x bs h l (inr i) =
    let d : (b : Branch) × (b ∈ keep (λ b. ltb m b.start) bs) × (x ≡ b.start) = map_mem (λ b. b.start) x (keep (λ b. ltb m b.start) bs) i in
    let k : (d.0 ∈ bs) × (ltb m d.0.start ≡ true) = mem_keep (λ b. ltb m b.start) d.0 bs d.1 in
    let e : x ≡ d.0.start = d.2 in
    let g : m < d.0.start = ltb-true m d.0.start k.1 in
    let s : d.0.start ≤ now = started floor now bs d.0 h k.0 in
    (omega arith, omega arith)

module _ (s : Store) (m : ℕ) (h : Sound s) (l : s.head.floor ≤ m) (u : m ≤ s.head.now) where
  abbrev named : List ℕ
  named = moments (names s)

  -- what decides is readable
  deciding_readable : (t : ℕ) → t ∈ deciding named m (newest s) → (readable_from s m t ≡ true) × (t ≤ s.head.now)
  deciding_readable t i =
      elim (mem_append t (candidates m (newest s)) named i) [
        | inl k ↦
            let b : (m ≤ t) × (t ≤ s.head.now) = rows_started _ _ m t (newest s) h.rows u k in
            (readable_above m named t b.0, b.1)
        | inr k ↦
            let r : (n : Name) × (n ∈ names s) × (t ≡ n.moment) = map_mem (λ n. n.moment) t (names s) k in
            (readable_named m named t k, omega (arith, r.2, (h.names.fit r.0 r.1).below))
      ]

  -- what a readable moment passes, one that decides passes: its candidate, or itself where it is named
  decided : (f : ℕ → Bool) (t : ℕ) → readable_from s m t ≡ true → t ≤ s.head.now → f t ≡ true → ((k : Candidate m t (newest s)) → f k.moment ≡ true)
      → any f (deciding named m (newest s)) ≡ true
  decided f t i j e g =
      elim (readable→ m named t i) [
        | inl a ↦
            let k : Candidate m t (newest s) = rows_candidate _ _ m t (newest s) h.rows h.sizes.now_high l a j in
            any_mem f k.moment (deciding named m (newest s)) (mem_left k.moment (candidates m (newest s)) named (listed_mem m t (newest s) k)) (g k)
        | inr a ↦ any_mem f t (deciding named m (newest s)) (mem_right t (candidates m (newest s)) named a) e
      ]

  -- and the other way round
  decides : (f : ℕ → Bool) → any f (deciding named m (newest s)) ≡ true → some_readable (readable_from s m) s.head.now f ≡ true
  decides f e =
      let g : (t : ℕ) × (t ∈ deciding named m (newest s)) × (f t ≡ true) = mem_any f (deciding named m (newest s)) e in
      let i : (readable_from s m g.0 ≡ true) × (g.0 ≤ s.head.now) = deciding_readable g.0 g.1 in
      some_readable_intro (readable_from s m) s.head.now f g.0 i.0 i.1 g.2

  -- a counted record is given exactly if it is not older than the new floor, or a moment that decides gives it
  pub given_deciding : (r : Record) → r ∈ records s
      → is_given s m r ≡ (leb m r.moment || any (λ t. is_at r.moment (lookup s r.address t)) (deciding named m (newest s)))
  unfolding is_given lookup
  given_deciding r c =
      same_test _ _
      (λ e.
      case (leb m r.moment)
      (λ d. rw d)
      (λ d.
      let o : r.moment < m = leb-false m r.moment d in
      let g : Given s m r = given→ s m h l u r c e in
      let hit : (t : ℕ) → lookup s r.address t ≡ some r → is_at r.moment (lookup s r.address t) ≡ true = λ t f. rw f (eq-eqb r.moment r.moment refl) in
      rw d
      (decided (λ t. is_at r.moment (lookup s r.address t)) g.moment g.low g.high (hit g.moment g.found)
      (λ k. hit k.moment (k.finds (records s) r.address r o g.found)))))
      (λ e.
      elim (or→ (leb m r.moment) (any (λ t. is_at r.moment (lookup s r.address t)) (deciding named m (newest s))) e) [
        | inl d ↦
            let f : Fits s.head.size s.head.now (newest s) r = h.fits r c in
            →given s m h l u r.address r.moment r (readable_above m named r.moment (leb-true m r.moment d)) f.moment
            (find_own (records s) (newest s) r h.ascends c f.held)
        | inr d ↦ decides (λ t. is_at r.moment (lookup s r.address t)) d
      ])
