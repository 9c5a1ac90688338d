use Rattle.relation_groups.specs.ClosedLaws.{closed-split, fold-alone, others-stay}
use Rattle.relation_groups.specs.NamedLaws.{named_if_sound}
use Rattle.relation_groups.specs.SoundLaws.{relations-sound}
use Rattle.relation_groups.proofs.laws.relation_laws.Goals as goal

pub returns-clause-sound : goal.returns-clause-sound
returns-clause-sound c = relations-sound

pub returns-clause-named : goal.returns-clause-named
returns-clause-named c = λ ds two. named_if_sound _ (relations-sound ds two)

pub returns-clause-split : goal.returns-clause-split
returns-clause-split c = closed-split

pub returns-clause-fold_alone : goal.returns-clause-fold_alone
returns-clause-fold_alone c = fold-alone

pub returns-clause-others_stay : goal.returns-clause-others_stay
returns-clause-others_stay c = others-stay
