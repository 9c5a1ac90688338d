use Rattle.std.proofs.Common.{◌<◌, List, length, length-take, set, ap, ◌∙◌, arith}
use Rattle.std.proofs.Math.Seq.{take-set-lt}
use Rattle.tag_types.specs.declared.orders.Orders.{Orders}
use Rattle.tag_store.proofs.services.Services.set.Goals as goal

pub returns : goal.returns
returns c =
    let slots = c.self.inside.slots in
    let within : c.args.service.0 < c.self.inside.len = omega (arith, c.requires, ap length c.self.view_is, length-take {A = Orders}) in
    take-set-lt c.self.inside.len slots c.args.service.0 c.args.orders within ∙ ap (λ (services : List Orders). set services c.args.service.0 c.args.orders) c.self.view_is
