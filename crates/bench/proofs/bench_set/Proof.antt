-- `bench::bench_set` meets its contract: each row of the bench set computes. Assumes nothing.
use mathlib.Core.Path.{refl}
use Rattle.rules.specs.Opened.{every_rule}
use Rattle.bench.proofs.bench_set.Statement.{statement}
use Rattle.bench.proofs.bench_set.Tie as tie

returns : tie.Need-returns
unfolding every_rule
returns c =
    record {
      after_reset = refl;
      control1_flags = refl;
      control1_numbers = refl;
      payloads = refl;
      to_go = refl;
      first_words = refl;
      empty_at_256 = refl;
      empty_at_257 = refl;
      full_at_128 = refl;
      full_at_132 = refl;
      range_fault = refl;
      aqr = refl;
      turns = refl;
      check = refl;
    }

pub bench_set_spec : {M : Type 1} → statement M
bench_set_spec = tie.close (tie.spec returns)
