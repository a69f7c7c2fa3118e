use Rattle.desk.proofs.Turns.{hears_steps, drives_steps, home_steps, stranger_steps}
use Rattle.desk.proofs.stepping.step.Goals as goal

pub returns-in-Reading : goal.returns-in-Reading
returns-in-Reading c =
    hears_steps c.args.desk c.args.answer c.in-Reading.is c.hear.ensures

pub returns-in-Driving : goal.returns-in-Driving
returns-in-Driving c =
    drives_steps c.args.desk c.args.answer c.in-Driving.is c.drive.ensures

pub returns-in-Home : goal.returns-in-Home
returns-in-Home c =
    home_steps c.args.desk c.args.answer c.in-Home.is

pub returns-in-Stranger : goal.returns-in-Stranger
returns-in-Stranger c =
    stranger_steps c.args.desk c.args.answer c.in-Stranger.is
