mod Columns
mod HouseTable
mod LoadChecks
mod Runs
