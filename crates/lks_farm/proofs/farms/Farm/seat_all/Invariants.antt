use Rattle.std.proofs.Common.{◌≡◌, ◌≤◌, ◌-◌, [], vec_len, vec_capacity}
use Rattle.lks_farm.specs.Seats.{AreFresh, all_parts, badges_of}
use Rattle.lks_farm.specs.Sharing.{view_knowing}
use Rattle.lks_farm.proofs.farms.Farm.seat_all.Given as goal

-- each seat so far has one part of either right
abbrev pub invariant-loop-number : goal.invariant-loop-number
invariant-loop-number l =
    record {
      jobs_of : l.jobs.table ≡ l.self.name.jobs;
      results_of : l.results.table ≡ l.self.name.results;
      jobs : l.jobs.knows ≡ view_knowing (128 - l.number) l.self.name.pool [] [];
      results : l.results.knows ≡ view_knowing (128 - l.number) l.self.name.pool [] [];
      many : vec_len l.seats ≡ l.number;
      room : l.count ≤ vec_capacity l.seats;
      fresh : AreFresh l.self.name 0 l.seats.items;
      parts : all_parts (badges_of l.seats.items) ≡ l.number;
    }
