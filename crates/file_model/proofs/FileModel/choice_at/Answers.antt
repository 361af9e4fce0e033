use Rattle.std.proofs.Common.{◌≡◌, rules}
use Rattle.std.specs.List.{slice_get}
use Rattle.std.proofs.lemmas.Option.{gets}
use Rattle.file_model.proofs.Asked.{choice_none, choice_some, choice_inside}
use Rattle.file_model.proofs.FileModel.choice_at.Goals as goal

pub returns-in_err-starts-clause-place : goal.returns-in_err-starts-clause-place
returns-in_err-starts-clause-place c = rw c.from_residual.ensures (choice_none c.args.self.now.bytes.now c.args.state c.args.choice c.in_err-starts.ensures)

pub returns-clause-place : goal.returns-clause-place
returns-clause-place c =
    let e : c.map.result ≡ slice_get c.in_ok-starts.field-0.now c.args.choice = search (rules, gets) in
    rw e (choice_some c.args.self.now.bytes.now c.args.state c.args.choice c.in_ok-starts.ensures)

pub returns-clause-inside : goal.returns-clause-inside
returns-clause-inside c =
    let m = c.args.self.now in
    let e : c.map.result ≡ slice_get c.in_ok-starts.field-0.now c.args.choice = search (rules, gets) in
    rw e (choice_inside m.bytes.now c.args.state c.args.choice c.in_ok-starts.ensures m.sound m.typed)
