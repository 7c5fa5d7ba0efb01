use Rattle.dgt_board.proofs.laws.what_is_short.Goals as goal

pub returns-clause-identity : goal.returns-clause-identity
returns-clause-identity c = λ identity serial trademark battery long_serial.
    record { serial = serial; trademark = trademark; battery = battery; long_serial = long_serial }

pub returns-clause-clock : goal.returns-clause-clock
returns-clause-clock c = λ absence short. short

pub returns-clause-body : goal.returns-clause-body
returns-clause-body c = λ body short seven_bit. record { short = short; seven_bit = seven_bit }
