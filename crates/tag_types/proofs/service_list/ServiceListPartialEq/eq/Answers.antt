use Rattle.std.proofs.Common.{◌≡◌, ◌∙◌, sym, rules}
use Rattle.tag_types.specs.Equality.{same_services, same_services-Decides}
use Rattle.tag_types.proofs.service_list.ServiceListPartialEq.eq.Goals as goal

pub returns-clause-same : goal.returns-clause-same
returns-clause-same c =
    let told : c.eq.result ≡ same_services c.args.self.now c.args.other.now = search rules in
    let decides = same_services-Decides c.args.self.now c.args.other.now in
    (λ same. decides.0 (sym told ∙ same), λ same. told ∙ decides.1 same)
