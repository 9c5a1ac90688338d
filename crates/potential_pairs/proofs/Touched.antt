-- The near pairs that have a moved file.
use Rattle.std.proofs.Common.{◌≡◌, ◌∙◌, ◌<◌, ◌+◌, ◌==◌, ◌&&◌, ◌||◌, ℕ, Bool, true, false, cond, List, [], ◌∷◌, Some, None, length, take, filter, get_or, refl, sym, ap, subst, inl, inr}
use Rattle.std.proofs.lemmas.Bool.{or_parts}
use Rattle.std.proofs.lemmas.List.Elements.{All-head, All-tail}
use Rattle.std.proofs.lemmas.List.Folds.{list_any_more}
use Rattle.spare_tables.specs.Keys.{value_of}
use Rattle.spare_tables.specs.Order.{pair_cmp}
use Rattle.relation_groups.specs.Laws.{AreNamed, AreSound}
use Rattle.relation_groups.specs.Moves.{moves}
use Rattle.relation_groups.specs.Relations.{Relations}
use Rattle.relation_groups.specs.declared.moves.Move.{Move}
use Rattle.potential_pairs.specs.Naming.{live_name}
use Rattle.potential_pairs.specs.Planning.{has_file, is_moved_file, touched}
use Rattle.potential_pairs.specs.Potential.{AreBelow, Row, is_live}
use Rattle.potential_pairs.proofs.Rows.{same_name, value_later}
use Rattle.potential_pairs.proofs.Unmoved.{unmoved_file, unmoved_name}

pub none_chosen : (rows : List Row) → [] ≡ filter (λ _. false) rows
none_chosen [] = refl
none_chosen (row ∷ rows) = none_chosen rows

-- one of the files is among the moved ones
abbrev pub has_moved : List Move → ℕ × ℕ → Bool
has_moved moves files = is_moved_file moves files.0 || is_moved_file moves files.1

or_swap : (a b x y : Bool) → (a || b) || (x || y) ≡ (a || x) || (b || y)
or_swap true b x y = refl
or_swap false true true y = refl
or_swap false true false y = refl
or_swap false false x y = refl

pub touched-more : (moves : List Move) (i : ℕ) (d : Move) (near : List Row) → i < length moves
    → filter (λ row. has_moved (take i moves) row.0 || has_file (get_or moves i d).file.0 row.0) near ≡ touched (take (i + 1) moves) near
touched-more moves i d near within =
    let more : (f : ℕ) → is_moved_file (take (i + 1) moves) f ≡ is_moved_file (take i moves) f || (get_or moves i d).file.0 == f = λ f. list_any_more (λ (m : Move). m.file.0 == f) moves i d within in
    let same : (row : Row) → has_moved (take i moves) row.0 || has_file (get_or moves i d).file.0 row.0 ≡ has_moved (take (i + 1) moves) row.0 =
    λ row. or_swap (is_moved_file (take i moves) row.0.0) (is_moved_file (take i moves) row.0.1) ((get_or moves i d).file.0 == row.0.0) ((get_or moves i d).file.0 == row.0.1)
    ∙ sym (λ k. more row.0.0 k || more row.0.1 k) in
    λ k. filter (λ (row : Row). same row k) near

-- each near pair is of two of the first files, the lower first
pub below-value : (n : ℕ) (near : List Row) (q : ℕ × ℕ) (e : ℕ) → AreBelow n near → value_of pair_cmp near q ≡ Some e → (q.0 < q.1) × (q.1 < n)
below-value n [] q e below has = cc
below-value n (row ∷ near) q e below has = elim (same_name q row.0) [
  | inl same ↦ subst (λ (files : ℕ × ℕ). (files.0 < files.1) × (files.1 < n)) (sym same) (All-head (λ (r : Row). (r.0.0 < r.0.1) × (r.0.1 < n)) row near below)
  | inr other ↦ below-value n near q e (All-tail (λ (r : Row). (r.0.0 < r.0.1) × (r.0.1 < n)) row near below) (sym (value_later row near q other) ∙ has)
]

-- a near pair without a moved file keeps its name
pub untouched_name : (n : ℕ) (R Q : Relations) (gone : List ℕ) (list : List Move) → list ≡ moves n R Q → AreSound R → AreNamed R → AreSound Q → AreNamed Q
    → (files : ℕ × ℕ) → files.0 < n → files.1 < n → has_moved list files ≡ false → live_name Q gone files ≡ live_name R gone files
unfolding live_name
untouched_name n R Q gone list are R_sound R_named Q_sound Q_named files first second none =
    let parts = or_parts (is_moved_file list files.0) (is_moved_file list files.1) none in
    let stays = unmoved_file n R Q files.0 first (sym (ap (λ ms. is_moved_file ms files.0) are) ∙ parts.0) in
    let other_stays = unmoved_file n R Q files.1 second (sym (ap (λ ms. is_moved_file ms files.1) are) ∙ parts.1) in
    ap (λ name. cond (is_live gone files.0 && is_live gone files.1) name None) (unmoved_name n R Q R_sound R_named Q_sound Q_named files.0 files.1 first second stays other_stays)
