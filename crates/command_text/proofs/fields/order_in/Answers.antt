use Rattle.std.proofs.Common.{List, ◌+◌, ◌∙◌, refl, subst, sym}
use Rattle.std.proofs.lemmas.Bool.{false≢true}
use Rattle.media_types.specs.declared.numbers.ServiceNo.{ServiceNo}
use Rattle.command_text.proofs.OrderLaws.{IsOrderTo, order_full, order_twice, order_more, order_read}
use Rattle.command_text.proofs.fields.order_in.Goals as goal
use Rattle.command_text.proofs.fields.order_in.Goals.{then-len-eq-MAX_SERVICES-via-then-len-eq-MAX_SERVICES, then-len-eq-MAX_SERVICES-via-else-len-eq-MAX_SERVICES+then-contains}

pub returns-then-len-eq-MAX_SERVICES : goal.returns-then-len-eq-MAX_SERVICES
returns-then-len-eq-MAX_SERVICES c =
    let so_far = c.loop-item.invariant in
    elim c.then-len-eq-MAX_SERVICES.branch [
      | then-len-eq-MAX_SERVICES-via-then-len-eq-MAX_SERVICES w ↦
          sym (order_full c.args.items.now c.loop-item.item-index c.loop-item.services c.item-item.result c.in_ok-service.service c.loop-item-test.true c.item-item.is c.in_ok-service.ensures so_far (sym c.len.ensures.value ∙ w.if-len-eq-MAX_SERVICES.true))
      | then-len-eq-MAX_SERVICES-via-else-len-eq-MAX_SERVICES+then-contains w ↦
          sym (order_twice c.args.items.now c.loop-item.item-index c.loop-item.services c.item-item.result c.in_ok-service.service c.loop-item-test.true c.item-item.is c.in_ok-service.ensures so_far (w.if-contains.ensures.0 refl))
    ]

pub loop-item-preserved : goal.loop-item-preserved
loop-item-preserved c =
    subst (λ (services : List ServiceNo). IsOrderTo c.args.items.now (c.loop-item.item-index + 1) services) (sym c.push.ensures)
    (order_more c.args.items.now c.loop-item.item-index c.loop-item.services c.item-item.result c.in_ok-service.service c.loop-item-test.true c.item-item.is c.in_ok-service.ensures c.loop-item.invariant
    (λ all. c.if-len-eq-MAX_SERVICES.false (c.len.ensures.value ∙ all))
    (λ there. false≢true (sym c.if-contains.false ∙ c.contains.ensures.1 there)))

pub returns : goal.returns
returns c = sym (order_read c.args.items.now c.loop-item.item-index c.loop-item.services c.loop-item-test.false c.loop-item.invariant)
