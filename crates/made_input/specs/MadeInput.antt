-- The made input: the source of a workload.
use Rattle.std.specs.Prelude.{ℕ, ◌+◌, ◌-◌, ◌/◌, ◌%◌, nat_lt, if◌then◌else◌, List, ◌++◌, codes, decimal}

-- a channel of a lane: a list of a word and the lane's number
abbrev pub channel : List ℕ → ℕ → List ℕ
channel word lane = codes "@[\"" ++ (word ++ (codes "\", " ++ (decimal lane ++ codes "]")))

-- what a lane counts down on, with the sum so far
abbrev pub count_channel : ℕ → List ℕ
count_channel lane = channel (codes "t") lane

-- the number of a lane's next step
abbrev pub step_channel : ℕ → List ℕ
step_channel lane = channel (codes "v") lane

-- where a lane leaves its sum
abbrev pub sum_channel : ℕ → List ℕ
sum_channel lane = channel (codes "sum") lane

-- what a lane begins with: the number that it counts down from, the sum 0, and its first step
abbrev pub start_text : ℕ → ℕ → List ℕ
start_text lane number = count_channel lane ++ (codes "!(" ++ (decimal number ++ (codes ", 0) | " ++ (step_channel lane ++ codes "!(1)"))))

-- what a step comes to: above 0 it counts down and adds its number to the sum, and else it leaves the sum
abbrev pub body_text : ℕ → List ℕ
body_text lane = codes "if (k > 0) { " ++ (count_channel lane ++ (codes "!(k - 1, s + v) | " ++ (step_channel lane ++ (codes "!(v + 1) } else { " ++ (sum_channel lane ++ codes "!(s) }")))))

-- the receive that makes a lane's steps
abbrev pub receive_text : ℕ → List ℕ
receive_text lane = codes "for (@k, @s <= " ++ (count_channel lane ++ (codes "; @v <= " ++ (step_channel lane ++ (codes ") { " ++ (body_text lane ++ codes " }")))))

-- the text of a lane that counts down from this number
abbrev pub lane_text : ℕ → ℕ → List ℕ
lane_text lane number = start_text lane number ++ (codes " | " ++ receive_text lane)

-- the number that a lane counts down from, where all four lanes take so many steps: a quarter of them, less one for the lane's last step, and one more where the lane is among those that the rest is for
abbrev pub number_of : ℕ → ℕ → ℕ
number_of lane steps = (steps / 4 - 1) + (if nat_lt lane (steps % 4) then 1 else 0)

-- a lane's text in the made input of so many steps
abbrev pub lane_of : ℕ → ℕ → List ℕ
lane_of steps lane = lane_text lane (number_of lane steps)

-- the made input of so many steps: its four lanes in parallel, each on a line
abbrev pub made_text : ℕ → List ℕ
made_text steps = lane_of steps 0 ++ (codes " |\n" ++ (lane_of steps 1 ++ (codes " |\n" ++ (lane_of steps 2 ++ (codes " |\n" ++ (lane_of steps 3 ++ codes "\n"))))))
