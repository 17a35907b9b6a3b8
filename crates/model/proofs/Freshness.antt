-- A fresh store is sound, and agrees with the empty reference.
use Prim.Native.Nat.{ℕ, zero, suc, ◌≤◌}
use mathlib.Core.Path.{◌≡◌, refl, sym, ◌∙◌}
use mathlib.Core.List.{List, [], ◌∷◌}
use mathlib.Core.Option.{none}
use mathlib.Core.Bool.{true}
use native.Mathlib.Omega.{arith}
use lib.ListN.{length, replicate, length-replicate, length-set}
use Rattle.model.specs.declared.Branch.{Branch}
use Rattle.model.specs.Store.{Store, branches, newest, records, names, keep, open_end, zero_branch, zero_record, zero_name}
use Rattle.model.specs.Lookup.{holds, ancestry, latest, first_found, lookup}
use Rattle.model.specs.Soundness.{lent_allowed, used}
use Rattle.model.specs.Fresh.{fresh_check, fresh, made_fresh}
use Rattle.model.specs.Reference.{empty}
use Rattle.model.proofs.Base.{case}
use Rattle.model.specs.ByNumber.{find, Allowed, AllowedIn}
use Rattle.model.proofs.Invariant.{Inv}
use Rattle.model.proofs.Kept.{Small, SmallBranch, SmallRecord, SmallName, all_set, all_replicate, Narrow, Kept}
use Rattle.model.proofs.Checked.{sizes→}

fresh_newest : (size nb nr np : ℕ) (slab : List ℕ) → 1 ≤ nb → newest (fresh size nb nr np slab) ≡ record { start = 0; end = open_end; cut = 0; order = 0 } ∷ []
unfolding newest branches fresh
fresh_newest size zero nr np slab h = absurd (omega arith)
fresh_newest size (suc nb) nr np slab h = refl

pub used_none : (n : ℕ) → used (replicate n 0) ≡ 0
unfolding used keep
used_none zero = refl
used_none (suc n) = used_none n

find_none : (a : ℕ) (bs : List Branch) (t : ℕ) → find [] a bs t ≡ none
unfolding ancestry first_found latest
find_none a [] t = refl
find_none a (b ∷ bs) t = case (holds b t) (λ e. rw e (find_none a bs b.cut)) (λ e. rw e (find_none a bs t))

fresh_inv : (size nb nr np : ℕ) (slab : List ℕ) → Allowed size nb nr np 32 (length slab) → Inv (fresh size nb nr np slab) empty
unfolding fresh records names lookup
fresh_inv size nb nr np slab m =
    let lb : length (fresh size nb nr np slab).branch_rows ≡ nb = length-set (replicate nb zero_branch) 0 _ ∙ length-replicate nb zero_branch in
    let lr : length (fresh size nb nr np slab).record_rows ≡ nr = length-replicate nr zero_record in
    let lp : length (fresh size nb nr np slab).place_rows ≡ np = length-replicate np 0 in
    let ln : length (fresh size nb nr np slab).name_rows ≡ 32 = length-replicate 32 zero_name in
    let en : newest (fresh size nb nr np slab) ≡ record { start = 0; end = open_end; cut = 0; order = 0 } ∷ [] = fresh_newest size nb nr np slab m.branches_low in
    record {
      sound =
          record {
            sizes = omega arith;
            rows = rw en (record { still = refl; begun = omega arith }, record { start = refl; cut = refl; order = refl; ordered = omega arith });
            names = record { apart = tt; fit = λ n i. absurd i };
            ascends = tt;
            fits = λ r i. absurd i;
            named = tt;
            in_use = used_none np;
          };
      now = refl;
      floor = refl;
      names = refl;
      held = refl;
      reads = λ a t i j. rw (find_none a (newest (fresh size nb nr np slab)) t);
    }

-- what is lent, made a fresh store
module _ (lent : Store) (size : ℕ) (accepted : fresh_check lent size ≡ 0) where
  allowed : lent_allowed lent size ≡ true
  unfolding fresh_check
  allowed =
      case (lent_allowed lent size)
      (λ e. e)
      (λ e. let z : 1 ≡ 0 = rw e at accepted in absurd (omega arith))

  sizes : AllowedIn lent size
  sizes = sizes→ _ _ _ _ _ _ allowed

  pub made_is : made_fresh lent size ≡ fresh size (length lent.branch_rows) (length lent.record_rows) (length lent.place_rows) lent.slab
  unfolding made_fresh
  made_is = rw allowed

  pub made_newest : newest (made_fresh lent size) ≡ record { start = 0; end = open_end; cut = 0; order = 0 } ∷ []
  made_newest = rw made_is (fresh_newest size _ _ _ lent.slab sizes.branches_low)

  pub made_inv : Inv (made_fresh lent size) empty
  made_inv = rw made_is (fresh_inv size _ _ _ lent.slab (rw sizes.name_rows at sizes))

  pub made_size : (made_fresh lent size).head.size ≡ size
  unfolding fresh
  made_size = rw made_is

  -- it has tables and slab as long as what is lent, and numbers of 32 bits
  pub made_narrow : Narrow (made_fresh lent size)
  unfolding fresh
  made_narrow =
      rw made_is
      (record {
        head = record { size = omega (arith, sizes.size_high); branches = omega arith; records = omega arith; now = omega arith; floor = omega arith; names = omega arith };
        branches =
            all_set 0 _ (all_replicate SmallBranch (length lent.branch_rows) zero_branch (record { start = omega arith; end = omega arith; cut = omega arith; order = omega arith }))
            (record { start = omega arith; end = omega arith; cut = omega arith; order = omega arith });
        records = all_replicate SmallRecord (length lent.record_rows) zero_record (record { address = omega arith; moment = omega arith; place = omega arith });
        places = all_replicate Small (length lent.place_rows) 0 (omega arith);
        names = all_replicate SmallName 32 zero_name (record { high = omega arith; low = omega arith; moment = omega arith });
      })

  pub made_kept : Kept lent (made_fresh lent size)
  unfolding fresh
  made_kept =
      rw made_is
      (record {
        branches = length-set (replicate (length lent.branch_rows) zero_branch) 0 _ ∙ length-replicate (length lent.branch_rows) zero_branch;
        records = length-replicate (length lent.record_rows) zero_record;
        places = length-replicate (length lent.place_rows) 0;
        names = length-replicate 32 zero_name ∙ sym sizes.name_rows;
        slab = refl;
        narrow = λ n. unfold fresh in rw made_is at made_narrow;
      })
