-- The texts of the tags once one more has been used.
use Rattle.std.proofs.Common.{List, ℕ}
use Rattle.std.specs.Prelude.{All}
use Rattle.std.proofs.lemmas.List.Elements.{All-push}
use Rattle.tag_types.specs.Cleaning.{IsTag}
use Rattle.tag_store.specs.Numbering.{HasPlaceFor, with_tag}
use Rattle.tag_store.specs.NumberingLaws.{AreNumbered-with_tag, with_by}
use Rattle.tag_store.specs.TagTexts.{AreTags}

tags-with_tag : (text : List ℕ) (texts : List (List ℕ)) → IsTag text → All IsTag texts → All IsTag (with_tag texts text)
tags-with_tag text texts is all = with_by text texts
    (λ known same. rw same all)
    (λ new more. rw more (All-push IsTag texts text all is))

pub AreTags-with_tag : (text : List ℕ) (texts : List (List ℕ)) → HasPlaceFor text texts → IsTag text → AreTags texts → AreTags (with_tag texts text)
AreTags-with_tag text texts place is tags = record {
  numbered = AreNumbered-with_tag text texts place tags.numbered;
  tags = tags-with_tag text texts is tags.tags;
}
