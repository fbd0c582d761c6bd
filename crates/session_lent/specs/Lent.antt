-- Document 01, "Expected forms by place": "the session's counters are lent and altered by its barrier call". Assumes nothing.
use Rattle.std.specs.Prelude.{ℕ}
use Rattle.session.specs.declared.Counters.{Counters}
use Rattle.session.specs.Replies.{Called}

-- a reply, from the number that is answered and the counters that are left
abbrev pub called_of : (answer : ℕ) → Counters → Called
called_of a c = record { answer = a; counters = c }
