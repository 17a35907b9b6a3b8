-- What each request keeps is kept by a batch, and by a list of calls: of a store, and of whatever follows what was answered.
use Prim.Native.Nat.{ℕ, zero, suc, ◌-◌}
use mathlib.Core.Path.{◌≡◌, subst⁻¹, ap, sym, ◌∙◌}
use mathlib.Core.List.{List, [], ◌∷◌, ◌++◌}
use lib.Dec.{ltb}
use lib.ListN.{length, drop}
use Rattle.model.specs.Store.{Store}
use Rattle.model.specs.Soundness.{table_check}
use Rattle.model.specs.Wire.{Request, one, parse, answer_bytes}
use Rattle.model.specs.Step.{step}
use Rattle.model.specs.Batch.{Answered, Run, run, batch}
use Rattle.model.specs.Demand3.{Call, after, answered}
use Rattle.model.specs.ByNumber.{Whole}
use Rattle.model.proofs.Base.{case}
use Rattle.model.proofs.Parsing.{Reads, parse_reads, case_parsed}
use Rattle.model.proofs.Running.{run_end, run_stop, run_full, run_one, batch_run}

-- a request with the answer that it gets
abbrev pub asked : Store → Request → Answered
asked s q = record { request = q; answer = (step s q).answer }

module _ {D : Type 0} (next : D → Answered → D) (all : D → List Answered → D) (none : (d : D) → all d [] ≡ d)
    (more : (d : D) (e : Answered) (es : List Answered) → all d (e ∷ es) ≡ all (next d e) es)
    (P : Store → D → Type 0) (keeps : (s : Store) (d : D) (q : Request) → Whole q → P s d → P (step s q).store (next d (asked s q))) where
  abbrev Kept : D → Run → Type 0
  Kept d r = P r.store (all d r.log)

  abbrev KeptOn : ℕ → Type 0
  KeptOn fuel = (s : Store) (d : D) (input : List ℕ) (space : ℕ) → P s d → Kept d (run fuel s input space)

  kept_none : (s : Store) (d : D) → P s d → P s (all d [])
  kept_none s d p = subst⁻¹ (P s) (none d) p

  kept_suc : (fuel : ℕ) → KeptOn fuel → KeptOn (suc fuel)
  kept_suc fuel ih s d input space p =
      case_parsed (parse input)
      (λ e. rw (run_end fuel s input space e) (kept_none s d p))
      (λ n e. rw (run_stop fuel s input space n e) (kept_none s d p))
      (λ q n e.
      let w : Reads (length input) (one q n) = rw e at (parse_reads input) in
      case (ltb space (length (answer_bytes (step s q).answer)))
      (λ c. rw (run_full fuel s input space q n e c) (kept_none s d p))
      (λ c.
      let r : Run = run fuel (step s q).store (drop n input) (space - length (answer_bytes (step s q).answer)) in
      rw (run_one fuel s input space q n e c)
      (subst⁻¹ (P r.store) (more d (asked s q) r.log)
      (ih (step s q).store (next d (asked s q)) (drop n input) (space - length (answer_bytes (step s q).answer)) (keeps s d q w.0 p)))))

  kept_run : (fuel : ℕ) → KeptOn fuel
  kept_run zero = kept_zero
    where
      kept_zero : KeptOn 0
      kept_zero s d input space p = unfold run in kept_none s d p
  kept_run (suc fuel) = kept_suc fuel (kept_run fuel)

  pub batch_keeps : (s : Store) (d : D) (input : List ℕ) (space : ℕ) → table_check s ≡ 0 → P s d → Kept d (batch s input space)
  batch_keeps s d input space c p = rw (batch_run s input space c) (kept_run (suc (length input)) s d input space p)

  all_append : (d : D) (es fs : List Answered) → all d (es ++ fs) ≡ all (all d es) fs
  all_append d [] fs = ap (λ (x : D). all x fs) (sym (none d))
  all_append d (e ∷ es) fs = more d e (es ++ fs) ∙ (all_append (next d e) es fs ∙ ap (λ (x : D). all x fs) (sym (more d e es)))

  pub calls_keep : ((s : Store) (d : D) → P s d → table_check s ≡ 0) → (s : Store) (d : D) (cs : List Call) → P s d → P (after s cs) (all d (answered s cs))
  unfolding after answered
  calls_keep passes s d [] p = kept_none s d p
  calls_keep passes s d (c ∷ cs) p =
      let r : Run = batch s c.input c.space in
      let k : P r.store (all d r.log) = batch_keeps s d c.input c.space (passes s d p) p in
      subst⁻¹ (P (after r.store cs)) (all_append d r.log (answered r.store cs)) (calls_keep passes r.store (all d r.log) cs k)
