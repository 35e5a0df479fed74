-- How many bytes are kept when the next piece comes.
use Rattle.dap_frame.proofs.Common.{arith, cases_lt, cond_above, cond_below, kept_of, refl, sym, ℕ, ◌+◌, ◌-◌, ◌<◌, ◌≡◌, ◌≤◌}
use Rattle.std.proofs.lemmas.Grind.{common_steps}

-- all of them, where no more are of frames already read than are of the rest
pub kept_whole : (passed len : ℕ) → passed ≤ len - passed → kept_of passed len ≡ len
kept_whole passed len h = sym (cond_above (len - passed) passed (len - passed) len len h refl)

-- those of the rest otherwise
pub kept_rest : (passed len : ℕ) → len - passed < passed → kept_of passed len ≡ len - passed
kept_rest passed len h = sym (cond_below (len - passed) passed (len - passed) len h)

pub kept_within : (passed len : ℕ) → kept_of passed len ≤ len
kept_within passed len = grind (arith, common_steps, cases_lt, kept_rest, kept_whole)

-- no more are kept once a frame was passed
pub kept_passed : (passed size len : ℕ) → kept_of (passed + size) len ≤ kept_of passed len
kept_passed passed size len = grind (arith, common_steps, cases_lt, kept_rest, kept_whole, kept_within)
