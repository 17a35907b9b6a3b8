-- What is lent as a store: a step said of rows, and said of every number.
use mathlib.Core.Path.{◌≡◌, refl, sym, ap, ap₂, ◌∙◌}
use mathlib.Core.List.{List}
use mathlib.Core.Option.{Option, some, none}
use Prim.Native.Nat.{ℕ}
use native.Mathlib.Omega.{arith}
use lib.Dec.{leb, ltb}
use lib.ListN.{length}
use Rattle.model.specs.declared.Head.{Head}
use Rattle.model.specs.declared.Branch.{Branch}
use Rattle.model.specs.declared.Record.{Record}
use Rattle.model.specs.declared.Name.{Name}
use Rattle.model.specs.Store.{Store, open_end, found_page}
use Rattle.model.specs.Lookup.{readable}
use Rattle.model.specs.Wire.{Request, write, mark, revert, read_at, reclaim, give, withdraw}
use Rattle.model.specs.Step.{Stepped, standing, first_free, into_free, written, do_write, do_mark, do_revert, do_read, do_reclaim, step}
use Rattle.model.proofs.Base.{case, both}
use Rattle.model.proofs.Naming.{give_cases, withdraw_cases}
use Rattle.rows.specs.declared.Found.{Found}
use Rattle.rows.specs.declared.Found.TheVariants.{Row, Nothing}
use Rattle.rows.specs.declared.Outcome.{Outcome}
use Rattle.rows.specs.Rows.{branch_rows_of, record_rows_of, name_rows_of, branch_table, record_table, name_table, BranchesLaid, RecordsLaid, NamesLaid}
use Rattle.rows.specs.View.{Tables, tables, store_of, laid, found_of, found_as, answer_of, record_given, Leaves, Carried}
use Rattle.rows.proofs.Laws.{branch_kind, record_kind, name_kind}
use Rattle.rows.proofs.Relaid.{laid_own, laid_rows, laid_over_lem}

-- an outcome and the tables that it leaves, as the store after a request with its answer
abbrev pub stepped_of : Outcome → Tables → Stepped
stepped_of r t = record { store = store_of r.head t; answer = answer_of r t.slab }

-- u has tables of rows as long as those of t, and the same numbers past their last whole rows
pub record Within (t u : Tables) : Type 0 where
  pub branches : BranchesLaid t.branches (branch_rows_of u.branches) u.branches
  pub records : RecordsLaid t.records (record_rows_of u.records) u.records
  pub names : NamesLaid t.names (name_rows_of u.names) u.names

pub within_own : (t : Tables) → Within t t
within_own t =
    record { branches = laid_own branch_kind t.branches; records = laid_own record_kind t.records; names = laid_own name_kind t.names }

-- what is found, there and back
found_as_lem : (f : Found) → found_as (found_of f) ≡ f
found_as_lem (Row r) = refl
found_as_lem Nothing = refl

pub found_of_lem : (o : Option Record) → found_of (found_as o) ≡ o
found_of_lem (some r) = refl
found_of_lem none = refl

-- no page is given where no record is
pub none_given : (f : Found) (slab : List ℕ) → found_page slab (found_of f) ≡ none → found_of f ≡ none
none_given Nothing slab e = refl
none_given (Row r) slab e = let z : ◌≡◌ {A = ℕ} 0 1 = cc in absurd (omega arith)

module _ {st : Stepped} {given : Option Record} {t u : Tables} {r : Outcome} where
  -- a step said of rows, and the numbers past them: every number is as the step says
  pub leaves_all : stepped_of r u ≡ st → found_of r.found ≡ given → Within t u → Leaves st given t r u
  leaves_all e f w =
      let eb : branch_rows_of u.branches ≡ st.store.branch_rows = ap (λ (x : Stepped). x.store.branch_rows) e in
      let er : record_rows_of u.records ≡ st.store.record_rows = ap (λ (x : Stepped). x.store.record_rows) e in
      let en : name_rows_of u.names ≡ st.store.name_rows = ap (λ (x : Stepped). x.store.name_rows) e in
      let tb : u.branches ≡ branch_table st.store.branch_rows t.branches = w.branches.table ∙ ap (λ (x : List Branch). branch_table x t.branches) eb in
      let tr : u.records ≡ record_table st.store.record_rows t.records = w.records.table ∙ ap (λ (x : List Record). record_table x t.records) er in
      let tn : u.names ≡ name_table st.store.name_rows t.names = w.names.table ∙ ap (λ (x : List Name). name_table x t.names) en in
      record {
        outcome =
            λ i.
            record {
              head = (e i).store.head;
              refusal = (e i).answer.refusal;
              value = (e i).answer.value;
              found = (sym (found_as_lem r.found) ∙ ap found_as f) i;
            };
        tables = λ i. tables (tb i) (tr i) (e i).store.place_rows (tn i) (e i).store.slab;
      }

pub carried : (h : Head) (t : Tables) (q : Request) {r : Outcome} {u : Tables} → stepped_of r u ≡ step (store_of h t) q → found_of r.found ≡ record_given (store_of h t) q → Within t u
    → Carried h t q r u
carried h t q e f w = record { leaves = leaves_all e f w }

-- the lengths of the tables of rows stay
pub record SameLengths (t u : Tables) : Type 0 where
  pub branches : length u.branches ≡ length t.branches
  pub records : length u.records ≡ length t.records
  pub names : length u.names ≡ length t.names

-- tables over which a store was laid, and which stayed as long, are that store
module _ (s : Store) {t u : Tables} (e : u ≡ laid s t) (k : SameLengths t u) where
  branches_laid : BranchesLaid t.branches s.branch_rows u.branches
  branches_laid = record { table = ap (λ (x : Tables). x.branches) e }

  records_laid : RecordsLaid t.records s.record_rows u.records
  records_laid = record { table = ap (λ (x : Tables). x.records) e }

  names_laid : NamesLaid t.names s.name_rows u.names
  names_laid = record { table = ap (λ (x : Tables). x.names) e }

  pub laid_store : {h : Head} → h ≡ s.head → store_of h u ≡ s
  laid_store eh =
      let eb : branch_rows_of u.branches ≡ s.branch_rows = laid_rows branch_kind branches_laid k.branches in
      let er : record_rows_of u.records ≡ s.record_rows = laid_rows record_kind records_laid k.records in
      let en : name_rows_of u.names ≡ s.name_rows = laid_rows name_kind names_laid k.names in
      λ i. record { head = eh i; branch_rows = eb i; record_rows = er i; place_rows = (e i).places; name_rows = en i; slab = (e i).slab }

  -- another store laid over them is laid over the tables before
  pub laid_on : (s' : Store) → laid s' u ≡ laid s' t
  laid_on s' =
      let eb : branch_table s'.branch_rows u.branches ≡ branch_table s'.branch_rows t.branches = laid_over_lem branch_kind branches_laid k.branches s'.branch_rows in
      let er : record_table s'.record_rows u.records ≡ record_table s'.record_rows t.records = laid_over_lem record_kind records_laid k.records s'.record_rows in
      let en : name_table s'.name_rows u.names ≡ name_table s'.name_rows t.names = laid_over_lem name_kind names_laid k.names s'.name_rows in
      λ i. tables (eb i) (er i) s'.place_rows (en i) s'.slab

-- a store laid over its own tables
pub laid_self : (h : Head) (t : Tables) → t ≡ laid (store_of h t) t
laid_self h t i =
    tables ((laid_own branch_kind t.branches).table i) ((laid_own record_kind t.records).table i) t.places ((laid_own name_kind t.names).table i) t.slab

-- only a read's answer has a page
abbrev NoPage : Stepped → Type 0
NoPage st = st.answer.page ≡ none

free_none : (s : Store) (a : ℕ) (page : List ℕ) (o : Option ℕ) → NoPage (into_free s a page o)
free_none s a page none = refl
free_none s a page (some p) = refl

pub written_none : (s : Store) (a : ℕ) (page : List ℕ) (o : Option Record) → NoPage (written s a page o)
written_none s a page (some r) = refl
written_none s a page none = both NoPage (ltb s.head.records (length s.record_rows)) (free_none s a page (first_free s.place_rows)) refl

-- the page of an answer is that of the record given
pub page_given : (s : Store) (q : Request) → (step s q).answer.page ≡ found_page (step s q).store.slab (record_given s q)
unfolding step do_write do_mark do_revert do_read do_reclaim record_given
page_given s (write a page) = both NoPage (ltb a s.head.size) (written_none s a page (standing s a)) refl
page_given s mark = both NoPage (ltb s.head.now open_end) refl refl
page_given s (revert m w) =
    both NoPage (readable s m)
    (both NoPage (leb s.head.now m) refl (both NoPage (leb open_end s.head.now) refl (both NoPage (leb (length s.branch_rows) s.head.branches) refl refl))) refl
page_given s (read_at a m) =
    case (ltb a s.head.size)
    (λ e₁. case (readable s m) (λ e₂. case (ltb s.head.now m) (λ e. rw (e₁, e₂, e)) (λ e. rw (e₁, e₂, e))) (λ e. rw (e₁, e)))
    (λ e. rw e)
page_given s (reclaim m) = both NoPage (ltb m s.head.floor) refl (both NoPage (ltb s.head.now m) refl refl)
page_given s (give n) = give_cases NoPage s n (λ k i j. refl) (λ g. refl)
page_given s (withdraw high low) = withdraw_cases NoPage s high low (λ e. refl) (λ n e. refl)

-- what a caller learns of a request carried out
module _ {h : Head} {t : Tables} {q : Request} {r : Outcome} {u : Tables} (c : Carried h t q r u) (k : SameLengths t u) where
  pub carried_store : store_of r.head u ≡ (step (store_of h t) q).store
  carried_store = laid_store (step (store_of h t) q).store c.leaves.tables k (ap (λ (x : Outcome). x.head) c.leaves.outcome)

  pub carried_answer : answer_of r u.slab ≡ (step (store_of h t) q).answer
  carried_answer =
      let e : found_of r.found ≡ record_given (store_of h t) q = ap (λ (x : Outcome). found_of x.found) c.leaves.outcome ∙ found_of_lem (record_given (store_of h t) q) in
      let page : found_page u.slab (found_of r.found) ≡ (step (store_of h t) q).answer.page =
      ap₂ found_page (ap (λ (x : Tables). x.slab) c.leaves.tables) e ∙ sym (page_given (store_of h t) q) in
      λ i. record { refusal = (c.leaves.outcome i).refusal; value = (c.leaves.outcome i).value; page = page i }

  -- and of tables that were laid over others: they still are
  pub carried_laid : {t₀ : Tables} → t ≡ laid (store_of h t) t₀ → SameLengths t₀ t → u ≡ laid (store_of r.head u) t₀
  carried_laid {t₀} e k₀ =
      c.leaves.tables ∙ (laid_on (store_of h t) e k₀ (step (store_of h t) q).store ∙ ap (λ (x : Store). laid x t₀) (sym carried_store))
