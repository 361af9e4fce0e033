-- What holds of a docket after any calls. Assumes nothing.
use Rattle.std.proofs.Common.{◌≡◌, List, [], ◌∷◌, None, refl}
use Rattle.mdp.specs.Table.{Table}
use Rattle.truth.specs.Dockets.{Docket, aimed, posed, priced, mixed}
use Rattle.truth.specs.Calls.{Call, price, mix, retarget, clear, settle, drafted, refusal, effect, after, ran}
use Rattle.truth.specs.Claims.{Orderly, StaysOrderly, StaysOrderlyDrafted, TargetsPresent}
use Rattle.truth.proofs.Taken.{after_taken, after_both, taken_exactly}
use Rattle.truth.proofs.Drafting.{drafted_posable}
use Rattle.truth.proofs.Targets.{map_each_by, targets_aimed}
use Rattle.truth.proofs.Rows.{orderly_none, orderly_priced, orderly_mixed, orderly_retargeted}
use Rattle.truth.proofs.Settling.{settle_keeps}

pub orderly_effect : (t : Table) (d : Docket) (c : Call) → refusal t d c ≡ None → Orderly t d → Orderly t (effect t d c)
orderly_effect t d (price ws lent) e o = orderly_priced t d ws lent e o
orderly_effect t d (mix ss) e o = orderly_mixed t d ss o
orderly_effect t d (retarget ts) e o = orderly_retargeted t d ts e o
orderly_effect t d clear e o = orderly_none t d.objectives o.posable
orderly_effect t d (settle lent) e o =
    settle_keeps t lent d e (Orderly t) (orderly_none t d.objectives o.posable) (λ f ws r p. orderly_priced t f ws lent r p) (λ f ss r p. orderly_mixed t f ss p)

-- what each call that is taken keeps, a run keeps
pub run_keeps : (t : Table) (P : Docket → Type 0) → ((d : Docket) (c : Call) → refusal t d c ≡ None → P d → P (effect t d c)) → (cs : List Call) (d : Docket) → P d → P (ran t d cs)
run_keeps t P step [] d p = p
run_keeps t P step (c ∷ cs) d p = run_keeps t P step cs (after t d c) (after_both t d c P (λ e. step d c e p) p)

pub stays_orderly : StaysOrderly
stays_orderly t os calls p = run_keeps t (Orderly t) (orderly_effect t) calls (posed os) (orderly_none t os p)

pub stays_orderly_drafted : StaysOrderlyDrafted
stays_orderly_drafted t offers calls = stays_orderly t (drafted t.columns offers) calls (drafted_posable t offers)

pub targets_present : TargetsPresent
unfolding priced mixed
targets_present t d =
    let same : Docket → Type 0 = λ e. e.objectives ≡ d.objectives in (
      (λ ts e.
          let os = d.objectives in
          rw (after_taken t d (retarget ts) e) (targets_aimed ts os (((taken_exactly t d).retarget_if ts).0 e).0, map_each_by _ (aimed ts) (λ j o. refl) os, refl, refl)),
      (λ ws lent. after_both t d (price ws lent) same (λ e. refl) refl),
      (λ ss. after_both t d (mix ss) (λ e. same e × (e.table ≡ d.table)) (λ e. (refl, refl)) (refl, refl)),
      refl,
      (λ lent. after_both t d (settle lent) same (λ e. settle_keeps t lent d e same refl (λ f ws r p. p) (λ f ss r p. p)) refl),
    )
