-- `landing::barrier_ran` meets its contract, case by case. Assumes nothing.
use Rattle.landing.proofs.barrier_ran.Goals as goal

pub returns-in-Bytes : goal.returns-in-Bytes
returns-in-Bytes c = simp c.in-Bytes.is
