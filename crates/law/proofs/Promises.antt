-- Calls that keep their promises carry every run on.
use Rattle.std.proofs.Common.{◌≡◌, ℕ, List, Ok, Err, Option, Result}
use Rattle.tray.specs.declared.fault.Fault.{Fault}
use Rattle.code.specs.Code.{Rule}
use Rattle.law.specs.Service.{Columns}
use Rattle.law.specs.Runs.{Shelf, put, get, pull, rebuild, sweep, Start, Step, Run}
use Rattle.law.specs.Promises.{Pulls, Gets, Puts, Rebuilds, Sweeps, told, told_inside, told_start, Carries, CarriesInside, CarriesIn, CarriesOut, CallsGoOn}

module _ (k : ℕ) (right : Rule) (size : ℕ) (s s' : Shelf) where
  pub put_carries : (j i : ℕ) (x : List ℕ) (answer : Result (Unit {0}) Fault)
      → Puts k right size s.out s.tray j i x answer s'.tray → s'.out ≡ s.out → Carries k right size s (told answer (put j i x)) s'
  put_carries j i x (Ok u) h same calls run = Run.calls run (Step.puts h same)
  put_carries j i x (Err f) h same calls run = Run.calls run (Step.refuses h same)

  pub get_carries : (j i : ℕ) (was v : List ℕ) (answer : Result (Unit {0}) Fault)
      → Gets k right size s.out s.tray j i was answer v s'.tray → s'.out ≡ s.out → Carries k right size s (told answer (get j i)) s'
  get_carries j i was v (Ok u) h same calls run = Run.calls run (Step.gets v h same)
  get_carries j i was v (Err f) h same calls run = Run.calls run (Step.refuses h.0 same)

  pub pull_carries : (c : ℕ) (answer : Result (Unit {0}) Fault)
      → Pulls k s.out c answer s'.out → s'.tray ≡ s.tray → Carries k right size s (told answer (pull c)) s'
  pull_carries c (Ok u) h same calls run = Run.calls run (Step.pulls h same)
  pull_carries c (Err f) h same calls run = Run.calls run (Step.refuses same h)

  pub rebuild_carries : (c : ℕ) (answer : Result ℕ Fault)
      → Rebuilds k right size s.out s.tray c answer s'.out s'.tray → Carries k right size s (told answer (rebuild c)) s'
  rebuild_carries c (Ok n) h calls run = Run.calls run (Step.rebuilds n h)
  rebuild_carries c (Err f) h calls run = Run.calls run (Step.refuses h.0 h.1)

  pub sweep_carries : (answer : Result (Option (ℕ × ℕ)) Fault)
      → Sweeps k right size s.out s.tray answer s'.tray → s'.out ≡ s.out → Carries k right size s (told answer sweep) s'
  sweep_carries (Ok found) h same calls run = Run.calls run (Step.sweeps found h same)
  sweep_carries (Err f) h same calls run = Run.calls run (Step.refuses h same)

  pub inner_get_carries : (j i : ℕ) (was v : List ℕ) (answer : Result (Unit {0}) Fault)
      → Gets k right size s.out s.tray j i was answer v s'.tray → s'.out ≡ s.out → CarriesInside k right size s (told_inside answer j i) s'
  inner_get_carries j i was v (Ok u) h same calls before start inner run = Run.gets run v h same
  inner_get_carries j i was v (Err f) h same calls before start inner run = Run.refuses run h.0 same

  pub start_carries : (c : ℕ) (answer : Result (Unit {0}) Fault)
      → Pulls k s.out c answer s'.out → s'.tray ≡ s.tray → CarriesIn k right size s (told_start answer c) s'
  start_carries c (Ok u) h same calls run = Run.starts run h same
  start_carries c (Err f) h same calls run = Run.starts run h same

  pub end_carries : (before : Columns) (start : Start) → s'.tray ≡ s.tray → s'.out ≡ before → CarriesOut k right size before start s s'
  end_carries before start tray same calls inner run = Run.ends run tray same

pub calls_go_on : CallsGoOn
calls_go_on k right size s s' =
    record {
      a_put = put_carries k right size s s';
      a_get = get_carries k right size s s';
      a_pull = pull_carries k right size s s';
      a_rebuild = rebuild_carries k right size s s';
      a_sweep = sweep_carries k right size s s';
      an_inner_get = inner_get_carries k right size s s';
      a_start = start_carries k right size s s';
      an_end = end_carries k right size s s';
    }
