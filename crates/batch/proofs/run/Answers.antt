use mathlib.Core.Path.{◌≡◌, refl, ap, sym, ◌∙◌}
use mathlib.Core.List.{List, [], ◌++◌}
use Prim.Native.Nat.{ℕ, ◌+◌, ◌-◌, ◌≤◌, ◌<◌}
use native.Mathlib.Nat.{not-suc-le-zero}
use native.Mathlib.Omega.{arith}
use lib.ListN.{length, take, drop, length-drop}
use Rattle.model.specs.Store.{Store}
use Rattle.model.specs.Wire.{Request, parse, one, Answer, answer_bytes}
use Rattle.model.specs.Step.{step}
use Rattle.model.specs.ByNumber.{Whole}
use Rattle.live.specs.Live.{LiveDisk, disk_of}
use Rattle.rows.specs.View.{Tables, tables, store_of, laid, found_of, answer_of}
use Rattle.rows.proofs.View.{SameLengths, laid_self, carried_store, carried_answer, carried_laid}
use Rattle.answering.specs.Answers.{Lies}
use Rattle.answering.proofs.Sending.{outcome_sends}
use Rattle.wire.specs.Requests.{request_of}
use Rattle.batch.proofs.Laws.{part_all, part_back, left_start, left_full_page, left_whole, left_taken, left_again, read_one, read_over}
use Rattle.following.proofs.Laws.{lands}
use Rattle.batch.proofs.Following.{followed_start, followed_next, followed_over}
use Rattle.batch.proofs.Lent.{over_leaves}
use Rattle.batch.proofs.Laws.{left_short}
use Rattle.batch.proofs.run.Goals as goal

pub loop-q-init : goal.loop-q-init
loop-q-init c =
    let at-start : Tables = tables c.args.bt.now c.args.rt.now c.args.pt.now c.args.nt.now c.args.slab.now in
    let disk-at-start : LiveDisk = disk_of c.args.disk.now c.args.marks.now in (
      refl,
      refl,
      refl,
      refl,
      refl,
      record {
        log = [];
        left = left_start (store_of c.args.first (at-start)) c.args.input.now c.args.answers.now c.requires.sound;
        followed = followed_start (store_of c.args.first (at-start)) (disk-at-start) c.requires;
      },
      laid_self c.args.first (at-start),
      λ k l e. absurd (not-suc-le-zero l),
      refl,
      refl,
    )

pub returns-in_default : goal.returns-in_default
returns-in_default c =
    let l = c.loop-q in
    let o = read_over c.args.input.now l.at c.read_request-p.result c.read_request-p.ensures l.invariant.5.left c.in_default.not-One in record { batch_leaves = rw (c.report.ensures, c.stop_number-stop.ensures) (over_leaves l.invariant.6 o); marks_after = followed_over l.invariant.5.followed o }

pub returns-then-answers-out-lt5 : goal.returns-then-answers-out-lt5
returns-then-answers-out-lt5 c =
    let read : parse (drop c.loop-q.at c.args.input.now) ≡ one (request_of (take (length c.args.input.now - c.loop-q.at) (drop c.loop-q.at c.args.input.now)) c.in-One.q) c.in-One.n = read_one c.args.input.now c.loop-q.at c.read_request-p.result c.read_request-p.ensures _ _ c.in-One.is in
    let l = c.loop-q in
    let o = left_short l.invariant.5.left (read) (omega (arith, c.if-answers-out-lt5.true, l.invariant.5.left.long)) in record { batch_leaves = rw c.report-then-answers-out-lt5.ensures (over_leaves l.invariant.6 o); marks_after = followed_over l.invariant.5.followed o }

pub serve-r-requires : goal.serve-r-requires
serve-r-requires c =
    let read : parse (drop c.loop-q.at c.args.input.now) ≡ one (request_of (take (length c.args.input.now - c.loop-q.at) (drop c.loop-q.at c.args.input.now)) c.in-One.q) c.in-One.n = read_one c.args.input.now c.loop-q.at c.read_request-p.result c.read_request-p.ensures _ _ c.in-One.is in
    let i = c.loop-q.invariant in record { sound = (i.5.left.sound, left_whole i.5.left (read)); none_below = i.7 }

pub returns-then-answers-out : goal.returns-then-answers-out
returns-then-answers-out c =
    let at-start : Tables = tables c.args.bt.now c.args.rt.now c.args.pt.now c.args.nt.now c.args.slab.now in
    let start-tables : Tables = at-start in
    let read : parse (drop c.loop-q.at c.args.input.now) ≡ one (request_of (take (length c.args.input.now - c.loop-q.at) (drop c.loop-q.at c.args.input.now)) c.in-One.q) c.in-One.n = read_one c.args.input.now c.loop-q.at c.read_request-p.result c.read_request-p.ensures _ _ c.in-One.is in
    let part_of : List ℕ = take (length c.args.input.now - c.loop-q.at) (drop c.loop-q.at c.args.input.now) in
    let asked : Request = request_of (part_of) c.in-One.q in
    let lent : Tables = let l = c.loop-q in
    tables l.bt l.rt l.pt l.nt l.slab in
    let store-of : Store = store_of c.loop-q.head (lent) in
    let left : Tables = tables c.serve-r.new.bt c.serve-r.new.rt c.serve-r.new.pt c.serve-r.new.nt c.serve-r.new.slab in
    let lengths : SameLengths (lent) (left) = record { branches = c.serve-r.auto.bt; records = c.serve-r.auto.rt; names = c.serve-r.auto.nt } in
    let stored : store_of c.serve-r.result.head (left) ≡ (step (store-of) (asked)).store = carried_store c.serve-r.ensures.carried (lengths) in
    let answers : answer_of c.serve-r.result (left).slab ≡ (step (store-of) (asked)).answer = carried_answer c.serve-r.ensures.carried (lengths) in
    let laid-still : left ≡ laid (store_of c.serve-r.result.head (left)) (start-tables) = let i = c.loop-q.invariant in
    carried_laid c.serve-r.ensures.carried (lengths) {t₀ = start-tables} i.6 (record { branches = i.0; records = i.1; names = i.3 }) in
    let sends : (c.serve-r.result.refusal < 64) × Lies (found_of c.serve-r.result.found) c.serve-r.new.slab = outcome_sends c.serve-r.result c.serve-r.new.slab (store-of) (asked) c.loop-q.invariant.5.left.sound (answers) in
    let sized : c.answer_size-size.result ≡ length (answer_bytes (step (store-of) (asked)).answer) = c.answer_size-size.ensures c.serve-r.new.slab (sends).1 ∙ ap (λ (x : Answer). length (answer_bytes x)) (answers) in
    let l = c.loop-q.invariant in
    let o = left_full_page l.5.left (read) (omega (arith, c.if-answers-out-lt5.false, l.5.left.long)) (omega (arith, c.if-answers-out.true, sized, l.5.left.long)) (stored) in record { batch_leaves = rw c.report-then-answers-out.ensures (over_leaves (laid-still) o); marks_after = followed_over l.5.followed o }

pub put_answer-requires : goal.put_answer-requires
put_answer-requires c =
    let part_of : List ℕ = take (length c.args.input.now - c.loop-q.at) (drop c.loop-q.at c.args.input.now) in
    let asked : Request = request_of (part_of) c.in-One.q in
    let lent : Tables = let l = c.loop-q in
    tables l.bt l.rt l.pt l.nt l.slab in
    let store-of : Store = store_of c.loop-q.head (lent) in
    let left : Tables = tables c.serve-r.new.bt c.serve-r.new.rt c.serve-r.new.pt c.serve-r.new.nt c.serve-r.new.slab in
    let lengths : SameLengths (lent) (left) = record { branches = c.serve-r.auto.bt; records = c.serve-r.auto.rt; names = c.serve-r.auto.nt } in
    let answers : answer_of c.serve-r.result (left).slab ≡ (step (store-of) (asked)).answer = carried_answer c.serve-r.ensures.carried (lengths) in
    let sends : (c.serve-r.result.refusal < 64) × Lies (found_of c.serve-r.result.found) c.serve-r.new.slab = outcome_sends c.serve-r.result c.serve-r.new.slab (store-of) (asked) c.loop-q.invariant.5.left.sound (answers) in
    let l = c.loop-q in (
      (sends).0,
      (sends).1,
      rw (part_all l.answers l.out)
          (omega (arith, length-drop l.out l.answers, c.if-answers-out.false, c.answer_size-size.ensures c.serve-r.new.slab (sends).1, l.invariant.5.left.long)),
    )

pub follow-requires : goal.follow-requires
follow-requires c =
    let read : parse (drop c.loop-q.at c.args.input.now) ≡ one (request_of (take (length c.args.input.now - c.loop-q.at) (drop c.loop-q.at c.args.input.now)) c.in-One.q) c.in-One.n = read_one c.args.input.now c.loop-q.at c.read_request-p.result c.read_request-p.ensures _ _ c.in-One.is in
    let part_of : List ℕ = take (length c.args.input.now - c.loop-q.at) (drop c.loop-q.at c.args.input.now) in
    let asked : Request = request_of (part_of) c.in-One.q in
    let lent : Tables = let l = c.loop-q in
    tables l.bt l.rt l.pt l.nt l.slab in
    let store-of : Store = store_of c.loop-q.head (lent) in
    let left : Tables = tables c.serve-r.new.bt c.serve-r.new.rt c.serve-r.new.pt c.serve-r.new.nt c.serve-r.new.slab in
    let lengths : SameLengths (lent) (left) = record { branches = c.serve-r.auto.bt; records = c.serve-r.auto.rt; names = c.serve-r.auto.nt } in
    let answers : answer_of c.serve-r.result (left).slab ≡ (step (store-of) (asked)).answer = carried_answer c.serve-r.ensures.carried (lengths) in
    let whole : Whole (asked) = left_whole c.loop-q.invariant.5.left (read) in
    let refusal : c.serve-r.result.refusal ≡ (step (store-of) (asked)).answer.refusal = ap (λ (x : Answer). x.refusal) (answers) in
    λ e. lands (store-of) _ (asked) c.loop-q.invariant.5.followed.fit (whole) (sym (refusal) ∙ e)

pub overflow_add-at : goal.overflow_add-at
overflow_add-at c =
    let read : parse (drop c.loop-q.at c.args.input.now) ≡ one (request_of (take (length c.args.input.now - c.loop-q.at) (drop c.loop-q.at c.args.input.now)) c.in-One.q) c.in-One.n = read_one c.args.input.now c.loop-q.at c.read_request-p.result c.read_request-p.ensures _ _ c.in-One.is in
    let taken : (7 ≤ c.in-One.n) × (c.loop-q.at + c.in-One.n ≤ length c.args.input.now) = left_taken c.loop-q.invariant.5.left (read) in
    omega (arith, taken)

pub loop-q-smaller : goal.loop-q-smaller
loop-q-smaller c =
    let read : parse (drop c.loop-q.at c.args.input.now) ≡ one (request_of (take (length c.args.input.now - c.loop-q.at) (drop c.loop-q.at c.args.input.now)) c.in-One.q) c.in-One.n = read_one c.args.input.now c.loop-q.at c.read_request-p.result c.read_request-p.ensures _ _ c.in-One.is in
    let taken : (7 ≤ c.in-One.n) × (c.loop-q.at + c.in-One.n ≤ length c.args.input.now) = left_taken c.loop-q.invariant.5.left (read) in
    omega (arith, taken)

pub loop-q-preserved : goal.loop-q-preserved
loop-q-preserved c =
    let at-start : Tables = tables c.args.bt.now c.args.rt.now c.args.pt.now c.args.nt.now c.args.slab.now in
    let start-tables : Tables = at-start in
    let read : parse (drop c.loop-q.at c.args.input.now) ≡ one (request_of (take (length c.args.input.now - c.loop-q.at) (drop c.loop-q.at c.args.input.now)) c.in-One.q) c.in-One.n = read_one c.args.input.now c.loop-q.at c.read_request-p.result c.read_request-p.ensures _ _ c.in-One.is in
    let part_of : List ℕ = take (length c.args.input.now - c.loop-q.at) (drop c.loop-q.at c.args.input.now) in
    let asked : Request = request_of (part_of) c.in-One.q in
    let lent : Tables = let l = c.loop-q in
    tables l.bt l.rt l.pt l.nt l.slab in
    let store-of : Store = store_of c.loop-q.head (lent) in
    let left : Tables = tables c.serve-r.new.bt c.serve-r.new.rt c.serve-r.new.pt c.serve-r.new.nt c.serve-r.new.slab in
    let lengths : SameLengths (lent) (left) = record { branches = c.serve-r.auto.bt; records = c.serve-r.auto.rt; names = c.serve-r.auto.nt } in
    let stored : store_of c.serve-r.result.head (left) ≡ (step (store-of) (asked)).store = carried_store c.serve-r.ensures.carried (lengths) in
    let answers : answer_of c.serve-r.result (left).slab ≡ (step (store-of) (asked)).answer = carried_answer c.serve-r.ensures.carried (lengths) in
    let laid-still : left ≡ laid (store_of c.serve-r.result.head (left)) (start-tables) = let i = c.loop-q.invariant in
    carried_laid c.serve-r.ensures.carried (lengths) {t₀ = start-tables} i.6 (record { branches = i.0; records = i.1; names = i.3 }) in
    let sends : (c.serve-r.result.refusal < 64) × Lies (found_of c.serve-r.result.found) c.serve-r.new.slab = outcome_sends c.serve-r.result c.serve-r.new.slab (store-of) (asked) c.loop-q.invariant.5.left.sound (answers) in
    let whole : Whole (asked) = left_whole c.loop-q.invariant.5.left (read) in
    let refusal : c.serve-r.result.refusal ≡ (step (store-of) (asked)).answer.refusal = ap (λ (x : Answer). x.refusal) (answers) in
    let room : c.answer_size-size.result ≤ length c.args.answers.now - c.loop-q.out = omega (arith, c.if-answers-out.false, c.loop-q.invariant.5.left.long) in
    let f = c.follow in
    let l = c.loop-q in
    let i = l.invariant in (
      c.serve-r.auto.bt ∙ i.0,
      c.serve-r.auto.rt ∙ i.1,
      c.serve-r.auto.pt ∙ i.2,
      c.serve-r.auto.nt ∙ i.3,
      c.serve-r.auto.slab ∙ i.4,
      record {
        log = _;
        left =
            left_again i.5.left (read) (stored) (ap answer_bytes (answers))
            (c.answer_size-size.ensures c.serve-r.new.slab (sends).1) (room)
            (part_back l.answers l.out _
            ∙ ap (λ (y : List ℕ). take l.out l.answers ++ y)
            (c.put_answer.ensures.1
            ∙ ap (λ (y : List ℕ). answer_bytes (answer_of c.serve-r.result c.serve-r.new.slab) ++ drop (length (answer_bytes (answer_of c.serve-r.result c.serve-r.new.slab))) y) (part_all l.answers l.out)));
        followed = followed_next i.5.followed (asked) (whole) (stored) (refusal) f.ensures;
      },
      laid-still,
      c.serve-r.ensures.none_below_2,
      f.auto.disk ∙ i.8,
      f.auto.marks ∙ i.9,
    )
