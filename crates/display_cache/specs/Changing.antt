-- How two worlds differ, or don't.
use Rattle.std.specs.Prelude.{◌≡◌, ℕ, Bool, false, ◌==◌, ◌&&◌, if◌then◌else◌, List, [], ◌∷◌, ⊤}
use Rattle.display_cache.specs.Shown.{World, has}
use Rattle.display_cache.specs.Cache.{given}

-- no tag stands twice
abbrev pub AreDistinct : List ℕ → Type 0
AreDistinct [] = ⊤
AreDistinct (x ∷ list) = (has list x ≡ false) × AreDistinct list

-- two worlds of the same tags and files that differ in one tag on one file of one service alone
pub record DifferAt (s t f : ℕ) (W V : World) : Type 0 where
  pub tags : V.tags ≡ W.tags
  pub files : V.files ≡ W.files
  pub live : V.live ≡ W.live
  pub others : (a b y u : ℕ) → ((a == s && b == f) && u == t) ≡ false → given V a b y u ≡ given W a b y u

-- two worlds in which each tag gives the same on each file
pub record Alike (W V : World) : Type 0 where
  pub tags : V.tags ≡ W.tags
  pub files : V.files ≡ W.files
  pub live : V.live ≡ W.live
  pub given : (a b y u : ℕ) → given V a b y u ≡ given W a b y u

-- a file is deleted, or live again
abbrev pub now_live : ℕ → Bool → World → World
now_live f now W = record W { live = λ g. if g == f then now else W.live g }
