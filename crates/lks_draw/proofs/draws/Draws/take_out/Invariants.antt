use Rattle.std.proofs.Common.{◌≡◌, ◌+◌, ◌-◌, ◌≤◌, ◌++◌, vec_len, vec_capacity}
use Rattle.lks_draw.specs.Picks.{members_taken}
use Rattle.lks_draw.specs.Words.{words_of, draw_after}
use Rattle.lks_draw.proofs.draws.Draws.take_out.Given as goal

abbrev pub invariant-loop-i : goal.invariant-loop-i
invariant-loop-i l = record {
  place : l.self ≡ draw_after l.initial.self l._i;
  rest : vec_len l.rest + l._i ≡ vec_len l.initial.rest;
  room : vec_len l.members + (l.n - l._i) ≤ vec_capacity l.members;
  members : l.members.items
      ++ members_taken (words_of l.initial.self.key) (l.initial.self.place + l._i) l.rest.items (l.n - l._i)
      ≡ l.initial.members.items
      ++ members_taken (words_of l.initial.self.key) l.initial.self.place l.initial.rest.items l.n;
}
