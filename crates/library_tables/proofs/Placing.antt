-- Words that a tree doesn't have yet, and that are placed one behind the other.
use Rattle.std.proofs.Common.{◌≡◌, ◌≢◌, ◌<◌, ◌≤◌, ◌+◌, ℕ, zero, suc, List, [], ◌∷◌, ◌++◌, length, get_or, length-append, append_assoc, refl, arith, ap, sym, subst, ◌∙◌}
use Rattle.std.specs.List.{All}
use Rattle.std.proofs.lemmas.List.{append-nil, length-map, map-append, get_or-map, get_or_append_left, get_or-append-add}
use Rattle.media_types.specs.declared.hash.Hash64.{Hash64}
use Rattle.vp_tree.specs.declared.node.NodeView.{NodeView}
use Rattle.media_types.specs.declared.limits.TheConstants.{MAX_HASHES, MAX_WORDS}
use Rattle.spare_tables.specs.Table.{Table}
use Rattle.vp_tree.specs.declared.plan.InsertPlan.{InsertPlan}
use Rattle.vp_tree.specs.Nodes.{words_in}
use Rattle.vp_tree.specs.Placing.{CanTake}
use Rattle.library_tables.specs.Imports.{words_planned}
use Rattle.file_records.specs.declared.file_row.FileRow.{FileRow}
use Rattle.file_records.specs.Importing.{IsPlannedFor, PlannedFile}
use Rattle.file_records.specs.WordLaws.{few_new_words}
use Rattle.file_records.specs.Words.{AreDistinctWords, words_of}

-- a word that comes behind those of the tree in a list without repeats isn't in the tree
pub not_there : (old : List NodeView) (words : List Hash64) (i : ℕ) (word : Hash64) →
    AreDistinctWords (words_in old ++ words) → i < length words → get_or words i word ≡ word → All (λ node. node.word ≢ word) old
not_there old words i word distinct within is k node lt =
    let n = length-map old (λ (m : NodeView). m.word) in
    let place : length (words_in old) + i < length (words_in old ++ words) = omega (arith, within, length-append (words_in old)) in
    let before : k < length (words_in old) + i = omega (arith, lt, n) in
    let apart = distinct k (length (words_in old) + i) word before place in
    λ same.
    let here : get_or (words_in old ++ words) k word ≡ (get_or old k node).word =
    get_or_append_left (words_in old) words word k (omega (arith, lt, n)) ∙ get_or-map (λ (m : NodeView). m.word) old k node word lt in
    apart (here ∙ same ∙ sym is ∙ sym (get_or-append-add (words_in old) words i word))

-- there is room for as many as are planned
pub room_for : (n most i spare : ℕ) → n ≤ most → n ≤ i → (0 < i → most ≤ spare) → n ≤ spare
room_for zero most i spare few all room = omega arith
room_for (suc n) most i spare few all room = let enough = room (omega (arith, all)) in omega (arith, few, enough)

-- nothing is left
pub ended : (done rest all : List InsertPlan) → length rest ≡ 0 → done ++ rest ≡ all → done ≡ all
ended done [] all none parts = sym (append-nil done) ∙ parts
ended done (plan ∷ rest) all none parts = absurd (omega (arith, none))

-- the next of the planned words can be taken, once those before it are placed
pub can_take : (old : List NodeView) (tree : Table NodeView) (done : List InsertPlan) (plan : InsertPlan) (rest all : List InsertPlan) →
    done ++ plan ∷ rest ≡ all → words_in tree.rows ≡ words_in old ++ words_planned done → 1 ≤ tree.spare →
    AreDistinctWords (words_in old ++ words_planned all) → length old + length all ≤ MAX_WORDS → CanTake tree plan.word
can_take old tree done plan rest all parts words room distinct few =
    let word_of : InsertPlan → Hash64 = λ p. p.word in
    let count : length (words_in tree.rows) ≡ length (words_in old) + length (words_planned done) = ap length words ∙ length-append (words_in old) _ in
    let n = length-map tree.rows (λ (m : NodeView). m.word) in
    let m = length-map old (λ (m : NodeView). m.word) in
    let d = length-map done word_of in
    let all_of : length done + suc (length rest) ≡ length all = sym (length-append done _) ∙ ap length parts in
    let split : words_in old ++ words_planned all ≡ words_in tree.rows ++ plan.word ∷ words_planned rest =
    ap (λ (plans : List InsertPlan). words_in old ++ words_planned plans) (sym parts)
    ∙ ap (λ (ws : List Hash64). words_in old ++ ws) (map-append word_of done (plan ∷ rest))
    ∙ sym (append_assoc (words_in old) (words_planned done) (plan.word ∷ words_planned rest))
    ∙ ap (λ (ws : List Hash64). ws ++ plan.word ∷ words_planned rest) (sym words) in
    record {
      room = room;
      few = omega (arith, few, count, n, m, d, all_of);
      other = not_there tree.rows (plan.word ∷ words_planned rest) 0 plan.word (subst AreDistinctWords split distinct) (omega arith) refl;
    }

-- what a planned import asks of the tree
pub record AsksOfTree (tree : Table NodeView) (words : List Hash64) : Type 0 where
  pub distinct : AreDistinctWords (words_in tree.rows ++ words)
  pub few : length words ≤ MAX_HASHES
  pub few_words : length tree.rows + length words ≤ MAX_WORDS

pub asks_of_tree : (tree : Table NodeView) (old new : List FileRow) (spare : ℕ) (plan : PlannedFile) (words : List Hash64) →
    words_in tree.rows ≡ words_of old → new ≡ old → IsPlannedFor plan (record { rows = new; spare = spare }) → words ≡ plan.words → AsksOfTree tree words
asks_of_tree tree old new spare plan words has same planned is =
    let n : length tree.rows ≡ length (words_of new) =
    sym (length-map tree.rows (λ (m : NodeView). m.word)) ∙ ap length has ∙ ap (λ (rows : List FileRow). length (words_of rows)) (sym same) in
    let few = few_new_words (words_of new) plan.row.hashes in
    record {
      distinct = rw (is, has, ← same) planned.distinct;
      few = omega (arith, few, planned.few_hashes, ap length is, ap length planned.words);
      few_words = omega (arith, planned.few_words, n, ap length is);
    }
