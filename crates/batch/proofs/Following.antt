-- The live disk beside a batch under way: it has followed the requests answered so far.
use mathlib.Core.Path.{◌≡◌, refl, ap, sym, ◌∙◌}
use mathlib.Core.List.{List, [], ◌∷◌, ◌++◌}
use Prim.Native.Nat.{ℕ}
use Rattle.model.specs.Store.{Store}
use Rattle.model.specs.Wire.{Request}
use Rattle.model.specs.Step.{step}
use Rattle.model.specs.Batch.{Answered, Run, batch}
use Rattle.model.specs.ByNumber.{Whole}
use Rattle.live.specs.Live.{LiveDisk, following, played}
use Rattle.live.specs.Fit.{Fit}
use Rattle.live.proofs.Behind.{fit_step}
use lib.ListN.{length}
use Rattle.batch.proofs.Laws.{Left, Over}

-- it fits the store that the batch has come to
pub record Followed (d₀ : LiveDisk) (log : List Answered) (u : Store) (d : LiveDisk) : Type 0 where
  pub fit : Fit u d
  pub disk : d ≡ played d₀ log

pub followed_start : (s : Store) (d : LiveDisk) → Fit s d → Followed d [] s d
unfolding played
followed_start s d f = record { fit = f; disk = refl }

-- one request more
played_next : (d : LiveDisk) (es : List Answered) (e : Answered) → played d (es ++ (e ∷ [])) ≡ following (played d es) e.request e.answer.refusal
unfolding played
played_next d [] e = refl
played_next d (x ∷ es) e = played_next (following d x.request x.answer.refusal) es e

pub followed_next : {d₀ : LiveDisk} {log : List Answered} {u : Store} {d : LiveDisk} → Followed d₀ log u d → (q : Request) → Whole q → {v : Store} {d' : LiveDisk} {refusal : ℕ}
    → v ≡ (step u q).store → refusal ≡ (step u q).answer.refusal → d' ≡ following d q refusal
    → Followed d₀ (log ++ (record { request = q; answer = (step u q).answer } ∷ [])) v d'
followed_next {d₀} {log} {u} {d} f q w {v} {d'} {refusal} ev er ed =
    let g : d' ≡ following d q (step u q).answer.refusal = ed ∙ ap (following d q) er in
    record {
      fit = rw (ev, g) (fit_step u d q f.fit w);
      disk =
          g
          ∙ (ap (λ (x : LiveDisk). following x q (step u q).answer.refusal) f.disk
          ∙ sym (played_next d₀ log (record { request = q; answer = (step u q).answer })));
    }

-- where the batch is over, it has followed all that was answered
pub followed_over : {d₀ : LiveDisk} {s : Store} {input a₀ : List ℕ} {u u' : Store} {a : List ℕ} {log : List Answered} {stop count at out : ℕ} {d : LiveDisk}
    → Followed d₀ log u' d → Over s input a₀ u a log stop count at out → d ≡ played d₀ (batch s input (length a₀)).log
followed_over {d₀ = d₀} f o = f.disk ∙ ap (λ (r : Run). played d₀ r.log) (sym o.same)

-- a batch under way, with the live disk
pub record Under (s : Store) (input a₀ : List ℕ) (d₀ : LiveDisk) (u : Store) (a : List ℕ) (d : LiveDisk) (count at out : ℕ) : Type 0 where
  pub log : List Answered
  pub left : Left s input a₀ u a log count at out
  pub followed : Followed d₀ log u d
