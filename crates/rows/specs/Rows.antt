-- A flat table of numbers seen as rows of any width, and the rows of branches, of records and of names.
use Rattle.std.specs.Prelude.{◌≡◌, List, [], ◌∷◌, ◌++◌, ℕ, zero, suc, ◌+◌, ◌*◌, ◌/◌, ◌≤◌, length, get_or, set, drop, replicate}
use Rattle.model.specs.declared.Branch.{Branch}
use Rattle.model.specs.declared.Record.{Record}
use Rattle.model.specs.declared.Name.{Name}

-- the list of f 0, f 1, .., f (n - 1)
unfoldable pub tab : {A : Type 0} → ℕ → (ℕ → A) → List A
tab zero f = []
tab (suc n) f = f zero ∷ tab n (λ k. f (suc k))

-- n zeros
unfoldable pub zeros : ℕ → List ℕ
zeros n = replicate n 0

-- the row i of a table: the row that `make` makes of the w numbers from i × w on
abbrev pub row_at : {A : Type 0} → ℕ → ((ℕ → ℕ) → A) → List ℕ → ℕ → A
row_at w make t i = make (λ j. get_or t (i * w + j) 0)

-- the whole rows of a table; numbers past the last whole row are no row
unfoldable pub rows_by : {A : Type 0} → ℕ → ((ℕ → ℕ) → A) → List ℕ → List A
rows_by w make t = tab (length t / w) (row_at w make t)

-- rows laid flat: the numbers of each, in order
unfoldable pub flat : {A : Type 0} → (A → List ℕ) → List A → List ℕ
flat fields [] = []
flat fields (x ∷ xs) = fields x ++ flat fields xs

-- a table with these rows laid over its whole rows; numbers past the last whole row stay
abbrev pub relaid : {A : Type 0} → ℕ → (A → List ℕ) → List A → List ℕ → List ℕ
relaid w fields xs old = flat fields xs ++ drop (length old / w * w) old

-- the table u is t with these rows: every number
pub record Relaid {A : Type 0} (w : ℕ) (fields : A → List ℕ) (t : List ℕ) (xs : List A) (u : List ℕ) : Type 0 where
  pub table : u ≡ relaid w fields xs t

-- the table u is t with the row i set to x
pub record RowSet {A : Type 0} (w : ℕ) (make : (ℕ → ℕ) → A) (fields : A → List ℕ) (t : List ℕ) (i : ℕ) (x : A) (u : List ℕ) : Type 0 where
  pub laid : Relaid w fields t (set (rows_by w make t) i x) u

-- a branch row: start, end, cut, work order
abbrev pub branch_width : ℕ
branch_width = 4

abbrev pub branch_of : (ℕ → ℕ) → Branch
branch_of f = record { start = f 0; end = f 1; cut = f 2; order = f 3 }

abbrev pub branch_fields : Branch → List ℕ
branch_fields b = b.start ∷ b.end ∷ b.cut ∷ b.order ∷ []

abbrev pub branch_rows_of : List ℕ → List Branch
branch_rows_of = rows_by branch_width branch_of

-- a record row: address, moment, place
abbrev pub record_width : ℕ
record_width = 3

abbrev pub record_of : (ℕ → ℕ) → Record
record_of f = record { address = f 0; moment = f 1; place = f 2 }

abbrev pub record_fields : Record → List ℕ
record_fields r = r.address ∷ r.moment ∷ r.place ∷ []

abbrev pub record_rows_of : List ℕ → List Record
record_rows_of = rows_by record_width record_of

-- a name row: the two numbers of the name, and the moment
abbrev pub name_width : ℕ
name_width = 3

abbrev pub name_of : (ℕ → ℕ) → Name
name_of f = record { high = f 0; low = f 1; moment = f 2 }

abbrev pub name_fields : Name → List ℕ
name_fields n = n.high ∷ n.low ∷ n.moment ∷ []

abbrev pub name_rows_of : List ℕ → List Name
name_rows_of = rows_by name_width name_of

-- the branch table, the record table and the name table with these rows
abbrev pub branch_table : List Branch → List ℕ → List ℕ
branch_table = relaid branch_width branch_fields

abbrev pub record_table : List Record → List ℕ → List ℕ
record_table = relaid record_width record_fields

abbrev pub name_table : List Name → List ℕ → List ℕ
name_table = relaid name_width name_fields

-- the table u is t with these rows
abbrev pub BranchesLaid : List ℕ → List Branch → List ℕ → Type 0
BranchesLaid = Relaid branch_width branch_fields

abbrev pub RecordsLaid : List ℕ → List Record → List ℕ → Type 0
RecordsLaid = Relaid record_width record_fields

abbrev pub NamesLaid : List ℕ → List Name → List ℕ → Type 0
NamesLaid = Relaid name_width name_fields

-- the table u is t with one row set
abbrev pub BranchSet : List ℕ → ℕ → Branch → List ℕ → Type 0
BranchSet = RowSet branch_width branch_of branch_fields

abbrev pub RecordSet : List ℕ → ℕ → Record → List ℕ → Type 0
RecordSet = RowSet record_width record_of record_fields

abbrev pub NameSet : List ℕ → ℕ → Name → List ℕ → Type 0
NameSet = RowSet name_width name_of name_fields

-- the table has n rows
abbrev pub BranchesIn : ℕ → List ℕ → Type 0
BranchesIn n t = n * branch_width ≤ length t

abbrev pub RecordsIn : ℕ → List ℕ → Type 0
RecordsIn n t = n * record_width ≤ length t

abbrev pub NamesIn : ℕ → List ℕ → Type 0
NamesIn n t = n * name_width ≤ length t
