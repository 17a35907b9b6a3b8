-- The program's tables made a fresh store, and the batch on it.
use mathlib.Core.Path.{◌≡◌, refl, ap, ap₂, ◌∙◌}
use mathlib.Core.List.{List}
use mathlib.Core.Bool.{true, ◌&&◌}
use Prim.Native.Nat.{ℕ, ◌*◌, ◌%◌, ◌/◌, ◌≤◌}
use native.Mathlib.Omega.{arith}
use lib.Dec.{eqb}
use lib.ListN.{length, drop, length-append, length-replicate}
use Rattle.model.specs.declared.Branch.{Branch}
use Rattle.model.specs.Store.{Store, zero_branch}
use Rattle.model.specs.Soundness.{sizes_allowed, rows_read}
use Rattle.model.specs.Fresh.{fresh, program_store, made_fresh}
use Rattle.live.specs.Live.{LiveDisk, disk_of, marks_small}
use Rattle.live.proofs.LiveDemand.{sized_run}
use Rattle.rows.specs.Rows.{zeros, record_width, record_rows_of, name_width, name_rows_of}
use Rattle.rows.proofs.Laws.{record_count, name_count, length_zeros}
use Rattle.lent.specs.declared.Ended.{Ended}
use Rattle.lent.specs.Lent.{Lent, whole_others, lent_fresh, zero_rows, fresh_start, fresh_batch, fresh_read, BatchLeaves}
use Rattle.lent_main.specs.Session.{at_start, run_of, Replies}

-- what the program lends
abbrev program : Lent
program = zero_rows (zeros (128 * record_width)) (zeros 128) (zeros (32 * name_width)) (zeros (128 * 256))

whole : whole_others program ≡ true
whole = ap₂ (λ (n k : ℕ). eqb (n % record_width) 0 && eqb (k % name_width) 0) (length_zeros (128 * record_width)) (length_zeros (32 * name_width))

rows : length (record_rows_of (zeros (128 * record_width))) ≡ 128
rows = record_count (zeros (128 * record_width)) ∙ ap (λ (n : ℕ). n / record_width) (length_zeros (128 * record_width))

named : length (name_rows_of (zeros (32 * name_width))) ≡ 32
named = name_count (zeros (32 * name_width)) ∙ ap (λ (n : ℕ). n / name_width) (length_zeros (32 * name_width))

made : (s : Store) → length s.branch_rows ≡ 16 → length s.record_rows ≡ 128 → length s.place_rows ≡ 128 → length s.name_rows ≡ 32 → length s.slab ≡ 128 * 256 → made_fresh s 64 ≡ program_store s.slab
unfolding made_fresh sizes_allowed
made s b r p n l = rw (b, r, p, n, l)

started : fresh_start 64 program ≡ at_start
unfolding lent_fresh
started = rw whole (made _ (length-replicate {A = Branch} 16 zero_branch) rows (length_zeros 128) named (length_zeros (128 * 256)))

-- its live disk, and that it is one of 64 pages
abbrev disk : LiveDisk
disk = disk_of (zeros (64 * 256)) (zeros 64)

small : marks_small (zeros 64) ≡ true
unfolding marks_small zeros
small = refl

batch_is : (input : List ℕ) (space : ℕ) → (fresh_batch 64 program disk input space).run ≡ run_of input space
unfolding fresh_batch fresh
batch_is input space =
    rw (whole, started) (sized_run (record { store = at_start; disk = disk }) (record { bytes = length_zeros (64 * 256); marks = length_zeros 64; small = small }) input space)

read_is : fresh_read 64 program ≡ rows_read at_start
unfolding fresh_read
read_is = rw (whole, started)

-- what the batch leaves on tables of zeros, and the rows read, are the program's reply
pub replies : {rt pt nt slab bytes marks input area area' : List ℕ} {l' : Lent} {r : Ended} → rt ≡ zeros (128 * record_width) → pt ≡ zeros 128 → nt ≡ zeros (32 * name_width) → slab ≡ zeros (128 * 256)
    → bytes ≡ zeros (64 * 256) → marks ≡ zeros 64
    → BatchLeaves (fresh_batch 64 (zero_rows rt pt nt slab) (disk_of bytes marks) input (length area)).run (zero_rows rt pt nt slab) area r.report r.head l' area' → r.report.rows ≡ fresh_read 64 (zero_rows rt pt nt slab) → Replies input area r area'
replies {rt} {pt} {nt} {slab} {bytes} {marks} {input} {area} {area'} {l'} {r} er ep en es eb em l read =
    let z : BatchLeaves (fresh_batch 64 program disk input (length area)).run program area r.report r.head l' area' = rw (er, ep, en, es, eb, em) at l in
    let w = rw (batch_is input (length area)) at z in
    let q : r.report.rows ≡ fresh_read 64 program = rw (er, ep, en, es) at read in
    record { stop = w.stop; answered = w.answered; taken = w.taken; sent = w.sent; rows = q ∙ read_is; head = w.head; answers = w.answers }

-- the answers stand in the answer area
pub sent_within : {input area area' : List ℕ} {r : Ended} → Replies input area r area' → r.report.sent ≤ length area'
sent_within {input} {area} {area'} {r} p =
    let out : List ℕ = (run_of input (length area)).out in
    omega (arith, p.sent, ap length p.answers, length-append out (drop (length out) area))
