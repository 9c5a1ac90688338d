-- The services, and whose pairs each takes.
use Rattle.std.specs.Prelude.{◌≡◌, ◌≤◌, ℕ, List, [], ◌∷◌, length}
use Rattle.media_types.specs.declared.numbers.ServiceNo.{ServiceNo}
use Rattle.tag_types.specs.declared.limits.TheConstants.{MAX_SERVICES}
use Rattle.tag_types.specs.declared.orders.Orders.{Orders}

-- what a new service opens with: its own pairs alone
abbrev pub own_orders : ServiceNo → Orders
own_orders service = record { siblings = service ∷ []; parents = service ∷ [] }

-- service 0 is there from the start
abbrev pub first_services : List Orders
first_services = own_orders (record { 0 = 0 }) ∷ []

-- what the next service opens with
abbrev pub next_orders : List Orders → Orders
next_orders services = own_orders (record { 0 = length services })

-- so many of the slots are services
pub record AreSlots (slots : List Orders) (len : ℕ) : Type 0 where
  pub all : length slots ≡ MAX_SERVICES
  pub few : len ≤ MAX_SERVICES
