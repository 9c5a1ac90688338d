-- The files that have a hash, found one after the other.
use Rattle.std.proofs.Common.{◌≡◌, ◌<◌, ◌≤◌, ◌+◌, ◌-◌, ◌&&◌, ◌++◌, ℕ, zero, suc, Bool, true, false, cond, not, nat_lt, List, [], ◌∷◌, length, map, Option, Some, None, append_assoc, refl, ap, sym, subst, ◌∙◌, arith}
use mathlib.Core.Bool.{false≢true}
use Rattle.std.specs.List.{cons_option, filter, filter_map, find, range_with_len}
use Rattle.std.specs.Option.{is_some, option_map_or, option_to_list}
use Rattle.std.proofs.lemmas.Bool.{and_parts, and_right, ltb-true, le-ltb, lt-ltb}
use Rattle.std.proofs.lemmas.List.Elements.{filter_map-append}
use Rattle.std.proofs.lemmas.Option.{same_Some}
use Rattle.spare_tables.specs.KeyLaws.{by_test}
use Rattle.media_types.specs.Numbered.{is_past}
use Rattle.media_types.specs.declared.numbers.FileNo.{FileNo}
use Rattle.file_records.specs.declared.file_row.FileRow.{FileRow}
use Rattle.file_records.specs.Words.{has_hash, next_with}
use Rattle.near_search.specs.Noting.{holders_of}

abbrev numbered : ℕ → FileNo
numbered k = record { 0 = k }

-- n files from the number a on
abbrev files_from : ℕ → ℕ → List FileNo
files_from a n = map numbered (range_with_len a n)

past_later : (after : Option FileNo) (j k : ℕ) → j < k → is_past after j ≡ true → is_past after k ≡ true
past_later None j k later past = refl
past_later (Some g) j k later past = let less = ltb-true g.0 j past in lt-ltb g.0 k (omega arith)

-- ---- some files that are told by a test
module _ (has : ℕ → Bool) where
  -- the first of them past a place
  abbrev next_from : Option FileNo → ℕ → ℕ → Option FileNo
  next_from after a n = find (λ f. is_past after f.0 && has f.0) (files_from a n)

  -- those that aren't past a place
  abbrev up_to : Option FileNo → ℕ → ℕ → List FileNo
  up_to after a n = filter (λ f. has f.0 && not (is_past after f.0)) (files_from a n)

  none_up_to : (after : Option FileNo) (a n : ℕ) → is_past after a ≡ true → up_to after a n ≡ []
  none_up_to after a zero past = refl
  none_up_to after a (suc n) past =
      ap (λ b. cond (has a && not b) (numbered a ∷ up_to after (a + 1) n) (up_to after (a + 1) n)) past
      ∙ ap (λ b. cond b (numbered a ∷ up_to after (a + 1) n) (up_to after (a + 1) n)) (and_right (has a) false refl)
      ∙ none_up_to after (a + 1) n (past_later after a (a + 1) (omega arith) past)

  -- the next file, and what is so of it
  record IsNext (after : Option FileNo) (a n : ℕ) (g : FileNo) : Type 0 where
    joins : up_to (Some g) a n ≡ up_to after a n ++ g ∷ []
    past : is_past after g.0 ≡ true
    low : a ≤ g.0
    high : g.0 < a + n

  next_here : (after : Option FileNo) (a n : ℕ) (g : FileNo) → numbered a ≡ g → is_past after a ≡ true → has a ≡ true → IsNext after a (suc n) g
  next_here after a n g is past there = subst (IsNext after a (suc n)) is record {
    joins =
        let later = none_up_to (Some (numbered a)) (a + 1) n (lt-ltb a (a + 1) (omega arith)) in
        ap (λ b. cond (b && not (nat_lt a a)) (numbered a ∷ up_to (Some (numbered a)) (a + 1) n) (up_to (Some (numbered a)) (a + 1) n)) there
        ∙ ap (λ b. cond (not b) (numbered a ∷ up_to (Some (numbered a)) (a + 1) n) (up_to (Some (numbered a)) (a + 1) n)) (le-ltb a a (omega arith))
        ∙ ap (λ fs. numbered a ∷ fs) later
        ∙ sym (ap (λ fs. fs ++ numbered a ∷ []) (none_up_to after a (suc n) past));
    past = past;
    low = omega arith;
    high = omega arith;
  }

  not_past : (after : Option FileNo) (a : ℕ) → (is_past after a && has a) ≡ false → has a ≡ true → is_past after a ≡ false
  not_past after a fails there = sym (and_true (is_past after a)) ∙ ap (λ b. is_past after a && b) (sym there) ∙ fails
    where
      and_true : (b : Bool) → (b && true) ≡ b
      and_true true = refl
      and_true false = refl

  -- a file before the next one counts on both sides or on none
  next_later : (after : Option FileNo) (a n : ℕ) (g : FileNo) → (is_past after a && has a) ≡ false → IsNext after (a + 1) n g → IsNext after a (suc n) g
  next_later after a n g fails next =
      let before : nat_lt g.0 a ≡ false = le-ltb g.0 a (omega (arith, next.low)) in
      record {
        joins = by_test (has a)
            (λ there. rw (there, before, not_past after a fails there) (ap (λ fs. numbered a ∷ fs) next.joins))
            (λ other. rw other next.joins);
        past = next.past;
        low = omega (arith, next.low);
        high = omega (arith, next.high);
      }

  next_is : (after : Option FileNo) (a n : ℕ) (g : FileNo) → next_from after a n ≡ Some g → IsNext after a n g
  next_is after a zero g found = absurd (false≢true (ap is_some found))
  next_is after a (suc n) g found = by_test (is_past after a && has a)
      (λ here. let both = and_parts (is_past after a) (has a) here in next_here after a n g (same_Some (numbered a) g (rw here at found)) both.0 both.1)
      (λ fails. next_later after a n g fails (next_is after (a + 1) n g (rw fails at found)))

  all_up_to : (after : Option FileNo) (a n : ℕ) → next_from after a n ≡ None → up_to after a n ≡ filter (λ f. has f.0) (files_from a n)
  all_up_to after a zero none = refl
  all_up_to after a (suc n) none = by_test (is_past after a && has a)
      (λ here. absurd (false≢true (ap is_some (sym (rw here at none)))))
      (λ fails. by_test (has a)
      (λ there. rw (there, not_past after a fails there) (ap (λ fs. numbered a ∷ fs) (all_up_to after (a + 1) n (rw fails at none))))
      (λ other. rw other (all_up_to after (a + 1) n (rw fails at none))))

  few_up_to : (after : Option FileNo) (a n : ℕ) → length (up_to after a n) ≤ length (filter (λ f. has f.0) (files_from a n))
  few_up_to after a zero = omega arith
  few_up_to after a (suc n) = let rest = few_up_to after (a + 1) n in by_test (has a)
      (λ there. rw there (by_test (is_past after a) (λ past. rw past (omega arith)) (λ here. rw here (omega arith))))
      (λ other. rw other rest)

-- ---- the files that have a hash
-- those that aren't past a place
abbrev pub holders_up_to : List FileRow → ℕ → Option FileNo → List FileNo
holders_up_to rows h after = up_to (λ k. has_hash h rows k) after 0 (length rows)

-- how many files are left after a place, at most
abbrev pub left_after : ℕ → Option FileNo → ℕ
left_after n after = option_map_or (λ f. n - f.0) after (suc n)

pub none_yet : (rows : List FileRow) (h : ℕ) → holders_up_to rows h None ≡ []
none_yet rows h = none_up_to (λ k. has_hash h rows k) None 0 (length rows) refl

pub all_holders : (rows : List FileRow) (h : ℕ) (after : Option FileNo) → None ≡ next_with h after rows → holders_up_to rows h after ≡ holders_of rows h
unfolding next_with
all_holders rows h after none = all_up_to (λ k. has_hash h rows k) after 0 (length rows) (sym none)

pub few_holders : (rows : List FileRow) (h : ℕ) (after : Option FileNo) → length (holders_up_to rows h after) ≤ length (holders_of rows h)
few_holders rows h after = few_up_to (λ k. has_hash h rows k) after 0 (length rows)

fewer_left : (n : ℕ) (after : Option FileNo) (g : FileNo) → is_past after g.0 ≡ true → g.0 < n → n - g.0 < left_after n after
fewer_left n None g past within = omega arith
fewer_left n (Some f) g past within = let less = ltb-true f.0 g.0 past in omega arith

pub record IsHolder (rows : List FileRow) (h : ℕ) (after : Option FileNo) (g : FileNo) : Type 0 where
  pub joins : holders_up_to rows h (Some g) ≡ holders_up_to rows h after ++ g ∷ []
  pub there : g.0 < length rows
  pub fewer : left_after (length rows) (Some g) < left_after (length rows) after

pub next_holder : (rows : List FileRow) (h : ℕ) (after : Option FileNo) (g : FileNo) → Some g ≡ next_with h after rows → IsHolder rows h after g
unfolding next_with
next_holder rows h after g found =
    let next = next_is (λ k. has_hash h rows k) after 0 (length rows) g (sym found) in
    record {
      joins = next.joins;
      there = omega (arith, next.high);
      fewer = fewer_left (length rows) after g next.past (omega (arith, next.high));
    }

-- ---- what is noted of them
noted_one : {Y : Type 0} (found : Option Y) → option_to_list found ≡ cons_option found []
noted_one None = refl
noted_one (Some y) = refl

pub noted_more : {X Y : Type 0} (note : X → Option Y) (start old new : List Y) (before after : List X) (x : X) (found : Option Y) → after ≡ before ++ x ∷ [] → found ≡ note x
    → old ≡ start ++ filter_map note before → new ≡ old ++ option_to_list found → new ≡ start ++ filter_map note after
noted_more note start old new before after x found joins is so_far put =
    put ∙ ap (λ ys. ys ++ option_to_list found) so_far
    ∙ append_assoc start (filter_map note before) (option_to_list found)
    ∙ ap (λ ys. start ++ ys) (ap (λ o. filter_map note before ++ option_to_list o) is ∙ ap (λ ys. filter_map note before ++ ys) (noted_one (note x)) ∙ sym (ap (filter_map note) joins ∙ filter_map-append note before (x ∷ [])))
