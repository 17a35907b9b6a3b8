-- The reference ("the pile of pictures"): a complete snapshot of the volume for each moment, plain and slow.
use Rattle.std.specs.Prelude.{ℕ, ◌+◌, List, [], ◌∷◌, ◌++◌, Bool, true, false, cond, ◌&&◌, ◌||◌, ltb, eqb}
use Rattle.std.proofs.Math.Option.{Option, some, none}
use Rattle.model.specs.declared.Name.{Name}
use Rattle.model.specs.Store.{Page, moments, without, keep}
use Rattle.model.specs.Lookup.{is_readable, some_readable}
use Rattle.model.specs.Wire.{Request, write, mark, revert, read_at, reclaim, give, withdraw}

-- a snapshot ("picture"): for each address no page, or a page with the moment of its write
abbrev pub Snapshot : Type 0
Snapshot = ℕ → Option Page

-- a pair of address and moment
pub record Pair : Type 0 where
  pub address : ℕ
  pub moment : ℕ

-- now, floor and names of its own, a snapshot for each moment from 0 to now, and the set of held pairs, each once, in ascending order
pub record Reference : Type 0 where
  pub now : ℕ
  pub floor : ℕ
  pub names : List Name
  pub snapshot : ℕ → Snapshot
  pub held : List Pair

-- at first now and floor are 0, there is no name, snapshot 0 has no page, and no pair is held
abbrev pub empty : Reference
empty = record { now = 0; floor = 0; names = []; snapshot = λ t a. none; held = [] }

-- the snapshots with one put at a moment
abbrev pub with_snapshot : (ℕ → Snapshot) → ℕ → Snapshot → ℕ → Snapshot
with_snapshot snaps t snap u = cond (eqb u t) snap (snaps u)

-- the snapshot with a page put at an address
abbrev pub with_page_at : Snapshot → ℕ → Page → Snapshot
with_page_at snap a p b = cond (eqb b a) (some p) (snap b)

-- ascending by address, then moment
abbrev pub below : Pair → Pair → Bool
below p q = ltb p.address q.address || (eqb p.address q.address && ltb p.moment q.moment)

-- a pair put into the set
unfoldable pub hold : Pair → List Pair → List Pair
hold p [] = p ∷ []
hold p (q ∷ qs) = cond (below q p) (q ∷ hold p qs) (cond (below p q) (p ∷ q ∷ qs) (q ∷ qs))

abbrev pub has_moment : ℕ → Option Page → Bool
has_moment m (some p) = eqb p.moment m
has_moment m none = false

-- some snapshot that is readable with this floor has at the pair's address a page with its moment
unfoldable pub is_seen : Reference → ℕ → Pair → Bool
is_seen p floor x =
    some_readable (is_readable floor (moments p.names)) p.now (λ t. has_moment x.moment (p.snapshot t x.address))

-- naming and withdrawing touch no snapshot
abbrev pub with_names_of : Reference → List Name → Reference
with_names_of p ns = record { now = p.now; floor = p.floor; names = ns; snapshot = p.snapshot; held = p.held }

-- an accepted request
unfoldable pub accept : Reference → Request → Reference
accept p (write a page) =
    record {
      now = p.now;
      floor = p.floor;
      names = p.names;
      snapshot =
          with_snapshot p.snapshot p.now
          (with_page_at (p.snapshot p.now) a (record { bytes = page; moment = p.now }));
      held = hold (record { address = a; moment = p.now }) p.held;
    }
accept p mark =
    record {
      now = p.now + 1;
      floor = p.floor;
      names = p.names;
      snapshot = with_snapshot p.snapshot (p.now + 1) (p.snapshot p.now);
      held = p.held;
    }
accept p (revert m w) =
    record {
      now = p.now + 1;
      floor = p.floor;
      names = p.names;
      snapshot = with_snapshot p.snapshot (p.now + 1) (p.snapshot m);
      held = p.held;
    }
accept p (read_at a m) = p
accept p (reclaim m) =
    record { now = p.now; floor = m; names = p.names; snapshot = p.snapshot; held = keep (is_seen p m) p.held }
accept p (give n) = with_names_of p (p.names ++ (n ∷ []))
accept p (withdraw high low) = with_names_of p (without high low p.names)

-- fed with a request and whether its answer is a refusal
unfoldable pub feed : Reference → Request → Bool → Reference
feed p q true = p
feed p q false = accept p q
