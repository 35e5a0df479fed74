-- Codes of orders and reports as data, by which a proof tells them apart.
use Rattle.std.proofs.Common.{◌≡◌, ◌⊎◌, inl, inr, ℕ, Option, Some, None, refl}
use Rattle.std.specs.Coded.{Coded, code_by, codes, coded_ℕ, coded_option, coded⊎}
use Rattle.dbg_plan.specs.Breakpoints.{breakpoint_code}
use Rattle.dbg_plan.specs.Logs.{log_code}
use Rattle.dbg_runner.specs.Plain.{Heading, PlainReport, PlainOrder, Go, Hold, Quit}

pub heading_code : Coded Heading
heading_code = Prim.hlevel (codes, breakpoint_code)

pub report_code : Coded PlainReport
report_code = Prim.hlevel (codes, breakpoint_code, log_code)

parts : PlainOrder → Heading ⊎ Option ℕ
parts (Go h) = inl h
parts (Hold run) = inr (Some run)
parts Quit = inr None

whole : Heading ⊎ Option ℕ → PlainOrder
whole (inl h) = Go h
whole (inr (Some run)) = Hold run
whole (inr None) = Quit

back : (o : PlainOrder) → whole (parts o) ≡ o
unfolding whole parts
back (Go h) = refl
back (Hold run) = refl
back Quit = refl

pub order_code : Coded PlainOrder
order_code = code_by (Heading ⊎ Option ℕ) (coded⊎ heading_code (coded_option coded_ℕ)) parts whole back
