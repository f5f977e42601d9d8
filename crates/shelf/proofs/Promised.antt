-- Calls on a roster that keep their promises carry every run on.
use Rattle.std.proofs.Common.{ℕ, List, Option, Result, refl}
use Rattle.tray.specs.declared.fault.Fault.{Fault}
use Rattle.tray.specs.Meaning.{Meaning, Sized}
use Rattle.code.specs.Neighbours.{published}
use Rattle.law.specs.Runs.{put, get, rebuild, sweep}
use Rattle.law.specs.Promises.{told, told_inside}
use Rattle.law.proofs.Promises.{put_carries, get_carries, rebuild_carries, sweep_carries, inner_get_carries}
use Rattle.shelf.specs.Rosters.{Rostered, shelf_on}
use Rattle.shelf.specs.Promises.{GetsOn, PutsOn, RebuildsOn, SweepsOn, CarriesOn, CarriesInsideOn}

module _ (r : Rostered) (m m' : Meaning) (sized : Sized m) (sized' : Sized m') where
  pub get_goes_on : (c i : ℕ) (was v : List ℕ) (answer : Result (Unit {0}) Fault) → GetsOn r m c i was answer v m' → CarriesOn r m sized (told answer (get c i)) r m' sized'
  get_goes_on c i was v answer h =
      get_carries r.width (published r.width) r.size (shelf_on r m sized) (shelf_on r m' sized') c i was v answer h refl

  pub get_goes_on_inside : (c i : ℕ) (was v : List ℕ) (answer : Result (Unit {0}) Fault) → GetsOn r m c i was answer v m'
      → CarriesInsideOn r m sized (told_inside answer c i) m' sized'
  get_goes_on_inside c i was v answer h =
      inner_get_carries r.width (published r.width) r.size (shelf_on r m sized) (shelf_on r m' sized') c i was v answer h refl

  pub put_goes_on : (c i : ℕ) (block : List ℕ) (answer : Result (Unit {0}) Fault) → PutsOn r m c i block answer m' → CarriesOn r m sized (told answer (put c i block)) r m' sized'
  put_goes_on c i block answer h =
      put_carries r.width (published r.width) r.size (shelf_on r m sized) (shelf_on r m' sized') c i block answer h refl

  pub rebuild_goes_on : (r' : Rostered) (c : ℕ) (answer : Result ℕ Fault) → RebuildsOn r m c answer r' m' → CarriesOn r m sized (told answer (rebuild c)) r' m' sized'
  rebuild_goes_on r' c answer h = rebuild_carries r.width (published r.width) r.size (shelf_on r m sized) (shelf_on r' m' sized') c answer h

  pub sweep_goes_on : (answer : Result (Option (ℕ × ℕ)) Fault) → SweepsOn r m answer m' → CarriesOn r m sized (told answer sweep) r m' sized'
  sweep_goes_on answer h = sweep_carries r.width (published r.width) r.size (shelf_on r m sized) (shelf_on r m' sized') answer h refl
