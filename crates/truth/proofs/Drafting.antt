-- Which objectives a draft takes, and what it then holds. Assumes nothing.
use Rattle.std.proofs.Common.{List, [], ◌∷◌, ◌++◌, Decides, fold, arith}
use Rattle.std.proofs.lemmas.List.Elements.{All-nil, All-push}
use Rattle.std.proofs.lemmas.List.{length_push}
use Rattle.std.proofs.lemmas.Bool.{not-true}
use Rattle.std.proofs.lemmas.Bool.Decides.{nat_tests, Decides-not}
use Rattle.mdp.specs.Table.{Table}
use Rattle.plans.specs.declared.Objective.{Objective}
use Rattle.truth.specs.Calls.{allowed, draft_refusal, added, drafted}
use Rattle.truth.specs.Claims.{Accepted, Posable, OfferedExactly}
use Rattle.truth.proofs.Taken.{taken_both, decides_small}

decides_allowed : (t : Table) (o : Objective) → Decides (allowed t.columns o) (Accepted t o)
decides_allowed t o =
    let small = decides_small o.target in (
      (λ e. let s = small.0 (grind (arith, nat_tests)) in record { there = grind (arith, nat_tests); some = grind (arith, nat_tests); short = grind (arith, nat_tests); low = s.0; high = s.1 }),
      (λ a. let s = small.1 (a.low, a.high) in grind (arith, nat_tests)),
    )

pub offered_exactly : OfferedExactly
offered_exactly t os o =
    let d = decides_allowed t o in
    record {
      taken_if = ((λ e. (grind (arith, nat_tests), d.0 (grind (arith, nat_tests)))), (λ h. let a = d.1 h.1 in grind (arith, nat_tests)));
      if_full = λ l. grind (arith, nat_tests);
      if_outside = λ l n. let a = not-true (allowed t.columns o) ((Decides-not (allowed t.columns o) d).1 n) in grind (arith, nat_tests);
    }

more_posable : (t : Table) (offers os : List Objective) → Posable t os → Posable t (fold (added t.columns) os offers)
more_posable t [] os p = p
more_posable t (o ∷ offers) os p =
    more_posable t offers (added t.columns os o)
    (taken_both (draft_refusal t.columns os o) (os ++ (o ∷ [])) os (Posable t)
    (λ e.
    let h = (offered_exactly t os o).taken_if.0 e in
    record { few = omega (arith, length_push os o); each = All-push (Accepted t) os o p.each h.1 })
    p)

pub drafted_posable : (t : Table) (offers : List Objective) → Posable t (drafted t.columns offers)
drafted_posable t offers = more_posable t offers [] (record { few = omega arith; each = All-nil (Accepted t) })
